-- A line spells the action that is read in it, and no other.
use Rattle.std.proofs.Common.{◌≡◌, ℕ, ◌+◌, ◌≤◌, List, [], ◌∷◌, ◌++◌, length, map, take}
use Rattle.std.proofs.Common.{drop, sum, Option, Some, None, refl, sym, ap, ◌∙◌, subst, lit≤, arith}
use Rattle.std.proofs.lemmas.List.{append-nil, length-append, take-append-drop, take-append-le, take-take}
use Rattle.std.proofs.lemmas.List.{drop-append-le, length-drop, take_all, take_at, drop_at}
use Rattle.std.proofs.lemmas.List.Sums.{sum_by-cons}
use Rattle.edit_ops.specs.declared.edits.Edit.{Edit}
use Rattle.edit_ops.specs.declared.edits.Edit.TheVariants.{SetRow, InsertRow, DeleteRow, SetLength, CopyPattern}
use Rattle.edit_ops.specs.declared.edits.Edit.TheVariants.{TransposePattern, SetOrder, InsertOrder, DeleteOrder}
use Rattle.edit_ops.specs.declared.edits.Edit.TheVariants.{SetRestart, SetInstrument, SetInstrumentName, SetTable}
use Rattle.edit_ops.specs.declared.edits.Edit.TheVariants.{InsertTable, DeleteTable, SetText, AddSubtune, RemoveSubtune}
use Rattle.edit_ops.specs.declared.edits.Edit.TheVariants.{SetPatternCount}
use Rattle.edit_script.specs.declared.commands.Action.{Action}
use Rattle.edit_script.specs.declared.commands.Action.TheVariants as action
use Rattle.edit_script.specs.declared.forms.Keyword.{Keyword}
use Rattle.edit_script.specs.declared.forms.Keyword.TheVariants as keyword
use Rattle.edit_script.specs.Forms.{Argument, edit_form, form_of}
use Rattle.edit_script.specs.Spells.{AreSpelled, Spells}
use Rattle.edit_script.specs.Reading.{◌>>=◌, made, word_of, sizes_of, keyword_at, arguments_at, word_end, action_in}
use Rattle.edit_script.proofs.KeywordLaws.{keyword_found, keyword_has, no_keyword, ends_behind}
use Rattle.edit_script.proofs.ArgumentLaws.{cut, bytes_of, AreSized, are_sized, stops, arguments_again, arguments_take}

-- ---- the keyword of an action

edit_keyword : Edit → Keyword
edit_keyword (SetRow pattern place row) = keyword.Row
edit_keyword (InsertRow pattern place row) = keyword.RowInsert
edit_keyword (DeleteRow pattern place) = keyword.RowDelete
edit_keyword (SetLength pattern length) = keyword.PatternLength
edit_keyword (CopyPattern from to) = keyword.PatternCopy
edit_keyword (TransposePattern pattern by) = keyword.PatternTranspose
edit_keyword (SetOrder subtune channel place entry) = keyword.Order
edit_keyword (InsertOrder subtune channel place entry) = keyword.OrderInsert
edit_keyword (DeleteOrder subtune channel place) = keyword.OrderDelete
edit_keyword (SetRestart subtune channel restart) = keyword.OrderRestart
edit_keyword (SetInstrument instrument field value) = keyword.Instrument
edit_keyword (SetInstrumentName instrument name) = keyword.InstrumentName
edit_keyword (SetTable table number row) = keyword.Table
edit_keyword (InsertTable table number row) = keyword.TableInsert
edit_keyword (DeleteTable table number) = keyword.TableDelete
edit_keyword (SetText which text) = keyword.Text
edit_keyword AddSubtune = keyword.SubtuneAdd
edit_keyword (RemoveSubtune subtune) = keyword.SubtuneRemove
edit_keyword (SetPatternCount count) = keyword.PatternCount

keyword_of : Action → Keyword
keyword_of (action.Edit edit) = edit_keyword edit
keyword_of action.Undo = keyword.Undo
keyword_of action.Redo = keyword.Redo

abbrev size_list : List Argument → List ℕ
size_list arguments = map (λ (argument : Argument). argument.size) arguments

edit_word : (edit : Edit) → (edit_form edit).word ≡ word_of (edit_keyword edit)
unfolding edit_keyword word_of made
edit_word AddSubtune = refl
edit_word edit = refl

word_is : (a : Action) → (form_of a).word ≡ word_of (keyword_of a)
unfolding keyword_of word_of made
word_is (action.Edit edit) = edit_word edit
word_is action.Undo = refl
word_is action.Redo = refl

edit_sizes : (edit : Edit) → size_list (edit_form edit).arguments ≡ sizes_of (edit_keyword edit)
unfolding edit_keyword sizes_of made
edit_sizes AddSubtune = refl
edit_sizes edit = refl

sizes_are : (a : Action) → size_list (form_of a).arguments ≡ sizes_of (keyword_of a)
unfolding keyword_of sizes_of made
sizes_are (action.Edit edit) = edit_sizes edit
sizes_are action.Undo = refl
sizes_are action.Redo = refl

same_text : (n : ℕ) (bytes : List ℕ) → length bytes ≡ n → take n (bytes ++ []) ≡ bytes
same_text n bytes count = ap (take n) (append-nil bytes) ∙ take_all n bytes (omega (arith, count))

edit_again : (edit : Edit) → AreSized (edit_form edit).arguments →
    made (edit_keyword edit) (bytes_of (edit_form edit).arguments) ≡ action.Edit edit
unfolding edit_keyword made
edit_again (SetInstrumentName instrument name) sized =
    ap (λ bytes. action.Edit (SetInstrumentName instrument bytes)) (same_text 16 name sized.1.0)
edit_again (SetText which text) sized =
    ap (λ bytes. action.Edit (SetText which bytes)) (same_text 32 text sized.1.0)
edit_again edit sized = refl

made_again : (a : Action) → AreSized (form_of a).arguments →
    made (keyword_of a) (bytes_of (form_of a).arguments) ≡ a
unfolding keyword_of made
made_again (action.Edit edit) sized = edit_again edit sized
made_again action.Undo sized = refl
made_again action.Redo sized = refl

-- ---- a line that spells an action

pub action_again : (line : List ℕ) (a : Action) → Spells line a → action_in line ≡ Some a
unfolding action_in
action_again line a spells =
    let behind = spells.behind in
    let word : List ℕ = word_of (keyword_of a) in
    let whole : line ≡ word ++ behind = spells.parts ∙ ap (λ w. w ++ behind) (word_is a) in
    let ends : word_end line ≡ length word =
    ap word_end whole ∙ ends_behind (keyword_of a) behind (stops (form_of a).arguments behind spells.arguments) in
    let front : take (word_end line) line ≡ word =
    ap (λ n. take n line) ends ∙ ap (take (length word)) whole ∙ take_at word behind (length word) refl in
    let back : drop (word_end line) line ≡ behind =
    ap (λ n. drop n line) ends ∙ ap (drop (length word)) whole ∙ drop_at word behind (length word) refl in
    let read : arguments_at (sizes_of (keyword_of a)) behind ≡ Some (bytes_of (form_of a).arguments) =
    ap (λ sizes. arguments_at sizes behind) (sym (sizes_are a))
    ∙ arguments_again (form_of a).arguments behind spells.arguments in
    let found : keyword_at (take (word_end line) line) ≡ Some (keyword_of a) =
    keyword_found (take (word_end line) line) (keyword_of a) front in
    rw (found, back, read)
    (ap Some (made_again a (are_sized (form_of a).arguments behind spells.arguments)))

-- ---- an action that is read

word_made : (k : Keyword) (bytes : List ℕ) → (form_of (made k bytes)).word ≡ word_of k
unfolding word_of made
word_made keyword.Row bytes = refl
word_made k bytes = refl

-- with six bytes or more, whether or not the others are there
arguments_made : (k : Keyword) (a b c d e f : ℕ) (rest : List ℕ) →
    (form_of (made k (a ∷ b ∷ c ∷ d ∷ e ∷ f ∷ rest))).arguments
    ≡ cut (sizes_of k) (a ∷ b ∷ c ∷ d ∷ e ∷ f ∷ rest)
unfolding sizes_of made
arguments_made keyword.Row a b c d e f rest = refl
arguments_made k a b c d e f rest = refl

-- bytes behind those of the arguments don't matter
front_made : (k : Keyword) (a b c d e f : ℕ) (rest : List ℕ) →
    made k (take (sum (sizes_of k)) (a ∷ b ∷ c ∷ d ∷ e ∷ f ∷ rest)) ≡ made k (a ∷ b ∷ c ∷ d ∷ e ∷ f ∷ rest)
unfolding sizes_of made
front_made keyword.InstrumentName a b c d e f rest =
    ap (λ bytes. action.Edit (SetInstrumentName a bytes)) (take-take 16 16 (b ∷ c ∷ d ∷ e ∷ f ∷ rest) (lit≤ tt))
front_made keyword.Text a b c d e f rest =
    ap (λ bytes. action.Edit (SetText a bytes)) (take-take 32 32 (b ∷ c ∷ d ∷ e ∷ f ∷ rest) (lit≤ tt))
front_made k a b c d e f rest = refl

record HasSix (bytes : List ℕ) : Type 0 where
  a : ℕ
  b : ℕ
  c : ℕ
  d : ℕ
  e : ℕ
  f : ℕ
  rest : List ℕ
  is : bytes ≡ a ∷ b ∷ c ∷ d ∷ e ∷ f ∷ rest

six : (bytes : List ℕ) → 6 ≤ length bytes → HasSix bytes
six (a ∷ b ∷ c ∷ d ∷ e ∷ f ∷ rest) many =
    record { a = a; b = b; c = c; d = d; e = e; f = f; rest = rest; is = refl }
six [] many = absurd (omega arith)
six (a ∷ []) many = absurd (omega arith)
six (a ∷ b ∷ []) many = absurd (omega arith)
six (a ∷ b ∷ c ∷ []) many = absurd (omega arith)
six (a ∷ b ∷ c ∷ d ∷ []) many = absurd (omega arith)
six (a ∷ b ∷ c ∷ d ∷ e ∷ []) many = absurd (omega arith)

arguments_of_many : (k : Keyword) (bytes : List ℕ) → 6 ≤ length bytes →
    (form_of (made k bytes)).arguments ≡ cut (sizes_of k) bytes
arguments_of_many k bytes many =
    let s = six bytes many in
    let P : List ℕ → Type 0 = λ xs. (form_of (made k xs)).arguments ≡ cut (sizes_of k) xs in
    subst P (sym s.is) (arguments_made k s.a s.b s.c s.d s.e s.f s.rest)

pub front_of_many : (k : Keyword) (bytes : List ℕ) → 6 ≤ length bytes →
    made k (take (sum (sizes_of k)) bytes) ≡ made k bytes
front_of_many k bytes many =
    let s = six bytes many in
    let P : List ℕ → Type 0 = λ xs. made k (take (sum (sizes_of k)) xs) ≡ made k xs in
    subst P (sym s.is) (front_made k s.a s.b s.c s.d s.e s.f s.rest)

cut_front : (sizes bytes more : List ℕ) → length bytes ≡ sum sizes → cut sizes (bytes ++ more) ≡ cut sizes bytes
cut_front [] bytes more count = refl
cut_front (size ∷ sizes) bytes more count =
    let total : sum (size ∷ sizes) ≡ size + sum sizes = sum_by-cons (λ n. n) size sizes in
    let front : take size (bytes ++ more) ≡ take size bytes = take-append-le size bytes more (omega arith) in
    let back : drop size (bytes ++ more) ≡ drop size bytes ++ more = drop-append-le size bytes more (omega arith) in
    let others : cut sizes (drop size bytes ++ more) ≡ cut sizes (drop size bytes) =
    cut_front sizes (drop size bytes) more (omega (arith, length-drop size bytes)) in
    ap (λ (first : List ℕ). record { size = size; bytes = first } ∷ cut sizes (drop size (bytes ++ more))) front
    ∙ ap (λ (others : List Argument). record { size = size; bytes = take size bytes } ∷ others)
    (ap (cut sizes) back ∙ others)

-- where the bytes are those of the arguments
arguments_of_all : (k : Keyword) (bytes : List ℕ) → length bytes ≡ sum (sizes_of k) →
    (form_of (made k bytes)).arguments ≡ cut (sizes_of k) bytes
arguments_of_all k bytes count =
    let zeros : List ℕ = 0 ∷ 0 ∷ 0 ∷ 0 ∷ 0 ∷ 0 ∷ [] in
    let many : 6 ≤ length (bytes ++ zeros) = omega (arith, length-append bytes zeros) in
    let all : take (sum (sizes_of k)) (bytes ++ zeros) ≡ bytes = take_at bytes zeros (sum (sizes_of k)) count in
    let same : made k bytes ≡ made k (bytes ++ zeros) =
    ap (made k) (sym all) ∙ front_of_many k (bytes ++ zeros) many in
    ap (λ a. (form_of a).arguments) same ∙ arguments_of_many k (bytes ++ zeros) many
    ∙ cut_front (sizes_of k) bytes zeros count

record HasRead (found : Option Keyword) (behind : List ℕ) (a : Action) : Type 0 where
  k : Keyword
  bytes : List ℕ
  is_found : found ≡ Some k
  is_read : arguments_at (sizes_of k) behind ≡ Some bytes
  is_made : made k bytes ≡ a

has_read_with : (k : Keyword) (behind : List ℕ) (a : Action) (o : Option (List ℕ)) →
    arguments_at (sizes_of k) behind ≡ o → (o >>= (λ bytes. Some (made k bytes))) ≡ Some a →
    HasRead (Some k) behind a
has_read_with k behind a None read e = absurd (cc (e))
has_read_with k behind a (Some bytes) read e =
    record { k = k; bytes = bytes; is_found = refl; is_read = read; is_made = cc (e) }

has_read : (found : Option Keyword) (behind : List ℕ) (a : Action) →
    (found >>= (λ (k : Keyword). arguments_at (sizes_of k) behind >>= (λ bytes. Some (made k bytes)))) ≡ Some a →
    HasRead found behind a
has_read None behind a e = absurd (cc (e))
has_read (Some k) behind a e = has_read_with k behind a (arguments_at (sizes_of k) behind) refl e

pub action_takes : (line : List ℕ) (a : Action) → action_in line ≡ Some a → Spells line a
unfolding action_in
action_takes line a e =
    let front : List ℕ = take (word_end line) line in
    let back : List ℕ = drop (word_end line) line in
    let is = has_read (keyword_at front) back a e in
    let word : front ≡ (form_of a).word =
    keyword_has front is.k is.is_found ∙ sym (word_made is.k is.bytes) ∙ ap (λ x. (form_of x).word) is.is_made in
    let takes = arguments_take (sizes_of is.k) back is.bytes is.is_read in
    let same : cut (sizes_of is.k) is.bytes ≡ (form_of a).arguments =
    sym (arguments_of_all is.k is.bytes takes.count) ∙ ap (λ x. (form_of x).arguments) is.is_made in
    record {
      behind = back;
      parts = sym (take-append-drop (word_end line) line) ∙ ap (λ w. w ++ back) word;
      arguments = subst (λ arguments. AreSpelled arguments back) same takes.spelled;
    }

-- ---- what is answered of a line

pub action_read : (line word behind : List ℕ) (k : Keyword) (sizes bytes : List ℕ) →
    word ≡ take (word_end line) line → behind ≡ drop (word_end line) line → word ≡ word_of k → sizes ≡ sizes_of k →
    arguments_at sizes behind ≡ Some (take (sum sizes) bytes) → 6 ≤ length bytes → action_in line ≡ Some (made k bytes)
unfolding action_in
action_read line word behind k sizes bytes front back is are read many =
    let found : keyword_at (take (word_end line) line) ≡ Some k =
    keyword_found (take (word_end line) line) k (sym front ∙ is) in
    let whole : arguments_at (sizes_of k) (drop (word_end line) line) ≡ Some (take (sum (sizes_of k)) bytes) =
    ap (arguments_at (sizes_of k)) (sym back) ∙ ap (λ ss. arguments_at ss behind) (sym are) ∙ read
    ∙ ap (λ ss. Some (take (sum ss) bytes)) are in
    rw (found, whole) (ap Some (front_of_many k bytes many))

pub no_word_read : (line word : List ℕ) → word ≡ take (word_end line) line →
    ((k : Keyword) → word ≡ word_of k → ⊥) → action_in line ≡ None
unfolding action_in
no_word_read line word front none =
    let nowhere : keyword_at (take (word_end line) line) ≡ None = ap keyword_at (sym front) ∙ no_keyword word none in
    rw nowhere refl

pub no_arguments_read : (line word behind : List ℕ) (k : Keyword) (sizes : List ℕ) →
    word ≡ take (word_end line) line → behind ≡ drop (word_end line) line → word ≡ word_of k → sizes ≡ sizes_of k →
    arguments_at sizes behind ≡ None → action_in line ≡ None
unfolding action_in
no_arguments_read line word behind k sizes front back is are read =
    let found : keyword_at (take (word_end line) line) ≡ Some k =
    keyword_found (take (word_end line) line) k (sym front ∙ is) in
    let whole : arguments_at (sizes_of k) (drop (word_end line) line) ≡ None =
    ap (arguments_at (sizes_of k)) (sym back) ∙ ap (λ ss. arguments_at ss behind) (sym are) ∙ read in
    rw (found, whole) refl

pub sizes_fit : (k : Keyword) → sum (sizes_of k) ≤ 33
unfolding sizes_of made
sizes_fit keyword.Row = lit≤ tt
sizes_fit k = lit≤ tt
