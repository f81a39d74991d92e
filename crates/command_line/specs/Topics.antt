-- What `help` is asked for, and what it and `version` print, line by line, each with its line feed.
use Rattle.std.specs.Prelude.{ℕ, List, map, codes, Option, Some, None}
use Rattle.command_line.specs.declared.topics.Topic.{Topic}
use Rattle.command_line.specs.declared.topics.Topic.TheVariants.{All, Check, Parts, Trace, Pack, Run, Show, Edit, Copy}
use Rattle.command_line.specs.declared.topics.Topic.TheVariants.{Join, Disasm, Asm, Selftest, Help, Version, Bound, BoundCheck}
use Rattle.command_line.specs.declared.topics.Topic.TheVariants.{Measure, Chart}
use Rattle.command_line.specs.declared.help.songs.TheConstants as songs
use Rattle.command_line.specs.declared.help.files.TheConstants as files
use Rattle.command_line.specs.declared.help.others.TheConstants as others

-- the first word of a form; the list of all forms has none
abbrev pub form_word : Topic → Option (List ℕ)
form_word All = None
form_word Check = Some (codes "check")
form_word Parts = Some (codes "parts")
form_word Bound = Some (codes "bound")
form_word BoundCheck = Some (codes "bound-check")
form_word Trace = Some (codes "trace")
form_word Pack = Some (codes "pack")
form_word Run = Some (codes "run")
form_word Measure = Some (codes "measure")
form_word Chart = Some (codes "chart")
form_word Show = Some (codes "show")
form_word Edit = Some (codes "edit")
form_word Copy = Some (codes "copy")
form_word Join = Some (codes "join")
form_word Disasm = Some (codes "disasm")
form_word Asm = Some (codes "asm")
form_word Selftest = Some (codes "selftest")
form_word Help = Some (codes "help")
form_word Version = Some (codes "version")

-- the lines of a topic, as they stand in the program
abbrev pub help_lines : Topic → List (List ℕ)
help_lines All = map (λ line. line.now) others.ALL.now
help_lines Check = map (λ line. line.now) songs.CHECK.now
help_lines Parts = map (λ line. line.now) songs.PARTS.now
help_lines Bound = map (λ line. line.now) songs.BOUND.now
help_lines BoundCheck = map (λ line. line.now) songs.BOUND_CHECK.now
help_lines Trace = map (λ line. line.now) songs.TRACE.now
help_lines Pack = map (λ line. line.now) songs.PACK.now
help_lines Run = map (λ line. line.now) files.RUN.now
help_lines Measure = map (λ line. line.now) files.MEASURE.now
help_lines Chart = map (λ line. line.now) files.CHART.now
help_lines Show = map (λ line. line.now) songs.SHOW.now
help_lines Edit = map (λ line. line.now) songs.EDIT.now
help_lines Copy = map (λ line. line.now) songs.COPY.now
help_lines Join = map (λ line. line.now) songs.JOIN.now
help_lines Disasm = map (λ line. line.now) files.DISASM.now
help_lines Asm = map (λ line. line.now) files.ASM.now
help_lines Selftest = map (λ line. line.now) others.SELFTEST.now
help_lines Help = map (λ line. line.now) others.HELP.now
help_lines Version = map (λ line. line.now) others.VERSION.now

abbrev pub version_lines : List (List ℕ)
version_lines = map (λ line. line.now) others.VERSION_LINES.now
