use Rattle.std.proofs.Common.{◌≡◌, ℕ, not, List, map, sym, ◌∙◌, ap, subst}
use Rattle.std.specs.List.{position_or_len, list_any}
use Rattle.std.specs.Str.{bytes_eq}
use Rattle.std.proofs.Math.Bool.{not-not}
use Rattle.packing_rules.proofs.Laws.{place_of_map, any_of_map}
use Rattle.song_cut.specs.declared.collecting.Piece.{Piece}
use Rattle.song_cut.specs.Numbers.{text_of, IsNumberOf}
use Rattle.song_cut.proofs.AddedPieces.{piece_text, number_there, number_new, collected_new}
use Rattle.song_cut.proofs.collecting.Pieces.number_of.Goals as goal
use Rattle.song_cut.proofs.collecting.Pieces.number_of.Goals.{then-is_new+in_ok-piece_of+in_ok-push, else-is_new}

pub returns-clause-collected : goal.returns-clause-collected
returns-clause-collected c =
    let there : list_any (bytes_eq (text_of c.args.rows.now)) (map piece_text c.args.self.now.list.items) ≡ not
    c.in_ok-number.is_new =
    ap (list_any (bytes_eq (text_of c.args.rows.now))) (sym c.requires.collected.texts)
    ∙ any_of_map (λ key. key.items) (bytes_eq (text_of c.args.rows.now)) _ c.args.self.now.texts.keys
    (λ key. ap (λ (text : List ℕ). bytes_eq text key.items) (sym c.in_ok-text.ensures))
    ∙ sym (not-not _) ∙ ap not (sym c.in_ok-number.ensures.added) in
    elim c.if-is_new.branch [
      | then-is_new+in_ok-piece_of+in_ok-push w ↦ (
          let none = sym (not-not _) ∙ ap not (sym c.in_ok-number.ensures.added ∙ w.if-is_new.true) in
          let parts = collected_new (λ key. key.items) c.args.self.now.list.items c.args.self.now.texts.keys _
          c.in_ok-text.text
          w.in_ok-piece_of.field-0 _ c.requires.collected.texts c.requires.collected.once w.in_ok-push.ensures.items
          (rw none at c.in_ok-number.ensures.keys)
          (c.in_ok-text.ensures ∙ ap text_of (sym w.in_ok-piece_of.ensures.rows))
          (rw w.in_ok-piece_of.ensures.rows (there ∙ ap not w.if-is_new.true))
          (record { is = rw w.in_ok-piece_of.ensures.rows w.in_ok-piece_of.ensures.weight }) in
          rw w.self-is (record { texts = parts.0; once = parts.1 }))
      | else-is_new w ↦ (
          let has = sym (not-not _) ∙ ap not (sym c.in_ok-number.ensures.added ∙ w.if-is_new.false) in
          rw w.self-is
          (record {
            texts = ap (map (λ key. key.items)) (rw has at c.in_ok-number.ensures.keys) ∙ c.requires.collected.texts;
            once = c.requires.collected.once;
          }))
    ]

pub returns-clause-number : goal.returns-clause-number
returns-clause-number c =
    let there : list_any (bytes_eq (text_of c.args.rows.now)) (map piece_text c.args.self.now.list.items) ≡ not
    c.in_ok-number.is_new =
    ap (list_any (bytes_eq (text_of c.args.rows.now))) (sym c.requires.collected.texts)
    ∙ any_of_map (λ key. key.items) (bytes_eq (text_of c.args.rows.now)) _ c.args.self.now.texts.keys
    (λ key. ap (λ (text : List ℕ). bytes_eq text key.items) (sym c.in_ok-text.ensures))
    ∙ sym (not-not _) ∙ ap not (sym c.in_ok-number.ensures.added) in
    let number : c.in_ok-number.number
    ≡ position_or_len (bytes_eq (text_of c.args.rows.now)) (map piece_text c.args.self.now.list.items) =
    c.in_ok-number.ensures.index
    ∙ sym (place_of_map (λ key. key.items) (bytes_eq (text_of c.args.rows.now)) _ c.args.self.now.texts.keys
    (λ key. ap (λ (text : List ℕ). bytes_eq text key.items) (sym c.in_ok-text.ensures)))
    ∙ ap (position_or_len (bytes_eq (text_of c.args.rows.now))) c.requires.collected.texts in
    elim c.if-is_new.branch [
      | then-is_new+in_ok-piece_of+in_ok-push w ↦ rw w.self-is
          (subst (λ (pieces : List Piece). IsNumberOf pieces c.args.rows.now c.in_ok-number.number)
          (sym w.in_ok-push.ensures.items)
          (number_new c.args.self.now.list.items w.in_ok-piece_of.field-0 c.args.rows.now c.in_ok-number.number
          (there ∙ ap not w.if-is_new.true) number w.in_ok-piece_of.ensures.rows))
      | else-is_new w ↦ rw w.self-is
          (number_there c.args.self.now.list.items c.args.rows.now c.in_ok-number.number
          (there ∙ ap not w.if-is_new.false) number)
    ]
