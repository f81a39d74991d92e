use Rattle.std.proofs.Common.{rules}
use Rattle.psid.proofs.HeaderPieces.{put_in_turn}
use Rattle.psid.proofs.writing.header_bytes.Goals as goal

pub returns-clause-bytes : goal.returns-clause-bytes
returns-clause-bytes c =
    put_in_turn c.args.header (search rules) (search rules) (search rules) _ _ _ _ _ _ _ _ _ _ _ _ _
    c.put_bytes.ensures c.put_word.ensures c.put_word-2.ensures c.put_word-3.ensures c.put_word-4.ensures
    c.put_word-5.ensures c.put_word-6.ensures c.put_word-7.ensures c.put_number.ensures c.put_bytes-2.ensures
    c.put_bytes-3.ensures c.put_bytes-4.ensures
    c.put_word-8.ensures

pub returns-clause-ranges : goal.returns-clause-ranges
returns-clause-ranges c = record {
  init = search rules;
  play = search rules;
  songs = search rules;
  start_song = search rules;
  speed = search rules;
  name = search rules;
  author = search rules;
  released = search rules;
  flags = search rules;
}
