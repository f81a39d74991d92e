-- Texts, instruments and tables: what is read is spelled, and what is spelled is read.
use Rattle.std.proofs.Common.{◌≡◌, ℕ, suc, List, [], ◌∷◌, ◌++◌, length, get_or, map, Ok, refl, sym}
use Rattle.std.proofs.Common.{ap, subst, ◌∙◌, append_assoc, arith}
use Rattle.std.specs.List.{All}
use Rattle.std.proofs.lemmas.List.{length-map}
use Rattle.std.proofs.lemmas.List.Elements.{All-nil, All-cons, All-head, All-tail}
use Rattle.base.proofs.Laws.{regroup3, regroup4}
use Rattle.song_model.specs.declared.instruments.Instrument.{Instrument}
use Rattle.song_model.specs.declared.tables.TableRow.{TableRow}
use Rattle.song_model.specs.Basics.{IsByte}
use Rattle.song_model.specs.Limits.{IsText, IsInstrument, IsTableRow, IsTable}
use Rattle.song_model.specs.Canonical.{instrument_text, table_text}
use Rattle.gts5.specs.declared.tables.Tables.{Tables}
use Rattle.gts5.specs.declared.texts.Texts.{Texts}
use Rattle.gts5.specs.Reading.{bytes_at, byte_at, texts_at, instrument_at, table_rows, table_at, tables_at}
use Rattle.gts5.proofs.Takes.{bind_ok, ok_is, Takes, bytes_take, bytes_again, byte_takes, byte_again}

-- ---- texts

abbrev pub IsTextOf : Texts → List ℕ → Type 0
IsTextOf texts piece = piece ≡ texts.name ++ (texts.author ++ texts.copyright)

pub record AreTexts (texts : Texts) : Type 0 where
  pub name : IsText 32 texts.name
  pub author : IsText 32 texts.author
  pub copyright : IsText 32 texts.copyright

pub texts_take : (total : ℕ) (bytes : List ℕ) (x : Texts × List ℕ) → All IsByte bytes → texts_at total bytes ≡ Ok x →
    Takes IsTextOf AreTexts bytes x.0 x.1
unfolding texts_at
texts_take total bytes x are e =
    let a = bind_ok (bytes_at total 32 bytes) _ x e in
    let b = bind_ok (bytes_at total 32 a.0.1) _ x a.2 in
    let c = bind_ok (bytes_at total 32 b.0.1) _ x b.2 in
    let one = bytes_take total 32 bytes a.0 are a.1 in
    let two = bytes_take total 32 a.0.1 b.0 one.left b.1 in
    let three = bytes_take total 32 b.0.1 c.0 two.left c.1 in
    let made : Texts × List ℕ = (record { name = a.0.0; author = b.0.0; copyright = c.0.0 }, c.0.1) in
    subst (λ (y : Texts × List ℕ). Takes IsTextOf AreTexts bytes y.0 y.1) (ok_is made x c.2) (record {
      piece = a.0.0 ++ (b.0.0 ++ c.0.0);
      spelled = refl;
      within = record {
        name = record { count = one.size; each = one.each };
        author = record { count = two.size; each = two.each };
        copyright = record { count = three.size; each = three.each };
      };
      parts = one.parts ∙ ap (λ (t : List ℕ). a.0.0 ++ t) (two.parts ∙ ap (λ (t : List ℕ). b.0.0 ++ t) three.parts)
          ∙ sym (regroup3 a.0.0 b.0.0 c.0.0 c.0.1);
      left = three.left;
    })

pub texts_again : (total : ℕ) (texts : Texts) (rest : List ℕ) → AreTexts texts →
    texts_at total (texts.name ++ (texts.author ++ (texts.copyright ++ rest))) ≡ Ok (texts, rest)
unfolding texts_at
texts_again total texts rest are =
    rw (
      bytes_again total 32 texts.name (texts.author ++ (texts.copyright ++ rest)) are.name.count,
      bytes_again total 32 texts.author (texts.copyright ++ rest) are.author.count,
      bytes_again total 32 texts.copyright rest are.copyright.count,
    ) refl

-- ---- instruments

nine : (xs : List ℕ) → length xs ≡ 9 →
    xs ≡ get_or xs 0 0 ∷ get_or xs 1 0 ∷ get_or xs 2 0 ∷ get_or xs 3 0 ∷ get_or xs 4 0 ∷ get_or xs 5 0 ∷ get_or xs 6 0 ∷
    get_or xs 7 0 ∷ get_or xs 8 0 ∷ []
nine (a ∷ b ∷ c ∷ d ∷ e ∷ f ∷ g ∷ h ∷ i ∷ []) l = refl
nine _ l = absurd (omega arith)

abbrev pub IsInstrumentText : Instrument → List ℕ → Type 0
IsInstrumentText instrument piece = piece ≡ instrument_text instrument

pub instrument_takes : (total : ℕ) (bytes : List ℕ) (x : Instrument × List ℕ) → All IsByte bytes →
    instrument_at total bytes ≡ Ok x → Takes IsInstrumentText IsInstrument bytes x.0 x.1
unfolding instrument_at
instrument_takes total bytes x are e =
    let a = bind_ok (bytes_at total 9 bytes) _ x e in
    let b = bind_ok (bytes_at total 16 a.0.1) _ x a.2 in
    let fields = bytes_take total 9 bytes a.0 are a.1 in
    let name = bytes_take total 16 a.0.1 b.0 fields.left b.1 in
    let f = a.0.0 in
    let size = fields.size in
    let made : Instrument × List ℕ = (
      record {
        ad = get_or f 0 0;
        sr = get_or f 1 0;
        wave = get_or f 2 0;
        pulse = get_or f 3 0;
        filter = get_or f 4 0;
        vibrato = get_or f 5 0;
        vibrato_delay = get_or f 6 0;
        gate_timer = get_or f 7 0;
        first_wave = get_or f 8 0;
        name = b.0.0;
      },
      b.0.1,
    ) in
    subst (λ (y : Instrument × List ℕ). Takes IsInstrumentText IsInstrument bytes y.0 y.1) (ok_is made x b.2) (record {
      piece = f ++ b.0.0;
      spelled = ap (λ (t : List ℕ). t ++ b.0.0) (nine f size);
      within = record {
        ad = fields.each 0 0 (omega arith);
        sr = fields.each 1 0 (omega arith);
        wave = fields.each 2 0 (omega arith);
        pulse = fields.each 3 0 (omega arith);
        filter = fields.each 4 0 (omega arith);
        vibrato = fields.each 5 0 (omega arith);
        vibrato_delay = fields.each 6 0 (omega arith);
        gate_timer = fields.each 7 0 (omega arith);
        first_wave = fields.each 8 0 (omega arith);
        name = record { count = name.size; each = name.each };
      };
      parts = fields.parts ∙ ap (λ (t : List ℕ). f ++ t) name.parts ∙ sym (append_assoc f b.0.0 b.0.1);
      left = name.left;
    })

pub instrument_again : (total : ℕ) (instrument : Instrument) (rest : List ℕ) → IsInstrument instrument →
    instrument_at total (instrument_text instrument ++ rest) ≡ Ok (instrument, rest)
unfolding instrument_at
instrument_again total i rest are =
    let fields : List ℕ = i.ad ∷ i.sr ∷ i.wave ∷ i.pulse ∷ i.filter ∷ i.vibrato ∷ i.vibrato_delay ∷ i.gate_timer ∷
    i.first_wave ∷ [] in
    let first : bytes_at total 9 (fields ++ (i.name ++ rest)) ≡ Ok (fields, i.name ++ rest) =
    bytes_again total 9 fields (i.name ++ rest) refl in
    rw (first, bytes_again total 16 i.name rest are.name.count) refl

-- ---- tables

lefts_of : (lefts rights : List ℕ) → length lefts ≡ length rights →
    map (λ row. row.left) (table_rows lefts rights) ≡ lefts
lefts_of [] rights l = refl
lefts_of (x ∷ xs) [] l = absurd (omega arith)
lefts_of (x ∷ xs) (y ∷ ys) l = ap (λ (t : List ℕ). x ∷ t) (lefts_of xs ys (omega arith))

rights_of : (lefts rights : List ℕ) → length lefts ≡ length rights →
    map (λ row. row.right) (table_rows lefts rights) ≡ rights
rights_of [] [] l = refl
rights_of [] (y ∷ ys) l = absurd (omega arith)
rights_of (x ∷ xs) [] l = absurd (omega arith)
rights_of (x ∷ xs) (y ∷ ys) l = ap (λ (t : List ℕ). y ∷ t) (rights_of xs ys (omega arith))

length-table : (lefts rights : List ℕ) → length lefts ≡ length rights → length (table_rows lefts rights) ≡ length lefts
length-table [] rights l = refl
length-table (x ∷ xs) [] l = absurd (omega arith)
length-table (x ∷ xs) (y ∷ ys) l = ap suc (length-table xs ys (omega arith))

sides_are : (lefts rights : List ℕ) → All IsByte lefts → All IsByte rights → All IsTableRow (table_rows lefts rights)
sides_are [] rights ls rs = All-nil IsTableRow
sides_are (x ∷ xs) [] ls rs = All-nil IsTableRow
sides_are (x ∷ xs) (y ∷ ys) ls rs =
    All-cons IsTableRow (record { left = x; right = y }) (table_rows xs ys)
    (record { left = All-head IsByte x xs ls; right = All-head IsByte y ys rs })
    (sides_are xs ys (All-tail IsByte x xs ls) (All-tail IsByte y ys rs))

sides_again : (rows : List TableRow) → table_rows (map (λ row. row.left) rows) (map (λ row. row.right) rows) ≡ rows
sides_again [] = refl
sides_again (row ∷ rows) = ap (λ (t : List TableRow). row ∷ t) (sides_again rows)

abbrev pub IsTableText : List TableRow → List ℕ → Type 0
IsTableText rows piece = piece ≡ table_text rows

pub table_takes : (total : ℕ) (bytes : List ℕ) (x : List TableRow × List ℕ) → All IsByte bytes →
    table_at total bytes ≡ Ok x → Takes IsTableText IsTable bytes x.0 x.1
unfolding table_at
table_takes total bytes x are e =
    let a = bind_ok (byte_at total bytes) _ x e in
    let b = bind_ok (bytes_at total a.0.0 a.0.1) _ x a.2 in
    let c = bind_ok (bytes_at total a.0.0 b.0.1) _ x b.2 in
    let n = a.0.0 in
    let lefts = b.0.0 in
    let rights = c.0.0 in
    let count = byte_takes total bytes a.0 are a.1 in
    let one = bytes_take total n a.0.1 b.0 count.left b.1 in
    let two = bytes_take total n b.0.1 c.0 one.left c.1 in
    let same : length lefts ≡ length rights = one.size ∙ sym two.size in
    let number : length (table_rows lefts rights) ≡ n = length-table lefts rights same ∙ one.size in
    let fits = count.fits in
    let made : List TableRow × List ℕ = (table_rows lefts rights, c.0.1) in
    subst (λ (y : List TableRow × List ℕ). Takes IsTableText IsTable bytes y.0 y.1) (ok_is made x c.2) (record {
      piece = n ∷ (lefts ++ rights);
      spelled = ap (λ (k : ℕ). k ∷ (lefts ++ rights)) (sym number)
          ∙ ap (λ (t : List ℕ). length (table_rows lefts rights) ∷ (t ++ rights)) (sym (lefts_of lefts rights same))
          ∙ ap
          (λ (t : List ℕ). length (table_rows lefts rights) ∷ (map (λ row. row.left) (table_rows lefts rights) ++ t))
          (sym (rights_of lefts rights same));
      within = record { count = omega arith; each = sides_are lefts rights one.each two.each };
      parts = count.parts ∙ ap (λ (t : List ℕ). n ∷ t)
          (one.parts ∙ ap (λ (t : List ℕ). lefts ++ t) two.parts ∙ sym (append_assoc lefts rights c.0.1));
      left = two.left;
    })

pub table_again : (total : ℕ) (rows : List TableRow) (rest : List ℕ) →
    table_at total (table_text rows ++ rest) ≡ Ok (rows, rest)
unfolding table_at
table_again total rows rest =
    let n = length rows in
    let lefts = map (λ row. row.left) rows in
    let rights = map (λ row. row.right) rows in
    let whole : table_text rows ++ rest ≡ n ∷ (lefts ++ (rights ++ rest)) =
    ap (λ (t : List ℕ). n ∷ t) (append_assoc lefts rights rest) in
    ap (table_at total) whole
    ∙ rw (
      byte_again total n (lefts ++ (rights ++ rest)),
      bytes_again total n lefts (rights ++ rest) (length-map rows (λ row. row.left)),
      bytes_again total n rights rest (length-map rows (λ row. row.right)),
      sides_again rows,
    ) refl

-- the four tables
abbrev pub AreTableTexts : Tables → List ℕ → Type 0
AreTableTexts t piece = piece ≡ table_text t.wave ++ (table_text t.pulse ++ (table_text t.filter ++ table_text t.speed))

pub record AreTables (t : Tables) : Type 0 where
  pub wave : IsTable t.wave
  pub pulse : IsTable t.pulse
  pub filter : IsTable t.filter
  pub speed : IsTable t.speed

four_texts : (a b c d p q r s : List ℕ) → p ≡ a → q ≡ b → r ≡ c → s ≡ d → p ++ (q ++ (r ++ s)) ≡ a ++ (b ++ (c ++ d))
four_texts a b c d p q r s e f g h = cc

pub tables_take : (total : ℕ) (bytes : List ℕ) (x : Tables × List ℕ) → All IsByte bytes → tables_at total bytes ≡ Ok x →
    Takes AreTableTexts AreTables bytes x.0 x.1
unfolding tables_at
tables_take total bytes x are e =
    let a = bind_ok (table_at total bytes) _ x e in
    let b = bind_ok (table_at total a.0.1) _ x a.2 in
    let c = bind_ok (table_at total b.0.1) _ x b.2 in
    let d = bind_ok (table_at total c.0.1) _ x c.2 in
    let wave = table_takes total bytes a.0 are a.1 in
    let pulse = table_takes total a.0.1 b.0 wave.left b.1 in
    let filter = table_takes total b.0.1 c.0 pulse.left c.1 in
    let speed = table_takes total c.0.1 d.0 filter.left d.1 in
    let made : Tables × List ℕ = (record { wave = a.0.0; pulse = b.0.0; filter = c.0.0; speed = d.0.0 }, d.0.1) in
    subst (λ (y : Tables × List ℕ). Takes AreTableTexts AreTables bytes y.0 y.1) (ok_is made x d.2) (record {
      piece = wave.piece ++ (pulse.piece ++ (filter.piece ++ speed.piece));
      spelled = four_texts _ _ _ _ _ _ _ _ wave.spelled pulse.spelled filter.spelled speed.spelled;
      within = record { wave = wave.within; pulse = pulse.within; filter = filter.within; speed = speed.within };
      parts = wave.parts ∙ ap (λ (t : List ℕ). wave.piece ++ t)
          (pulse.parts ∙ ap (λ (t : List ℕ). pulse.piece ++ t)
          (filter.parts ∙ ap (λ (t : List ℕ). filter.piece ++ t) speed.parts))
          ∙ sym (regroup4 wave.piece pulse.piece filter.piece speed.piece d.0.1);
      left = speed.left;
    })

pub tables_again : (total : ℕ) (t : Tables) (rest : List ℕ) →
    tables_at total (table_text t.wave ++ (table_text t.pulse ++ (table_text t.filter ++ (table_text t.speed ++ rest))))
    ≡ Ok (t, rest)
unfolding tables_at
tables_again total t rest =
    rw (
      table_again total t.wave (table_text t.pulse ++ (table_text t.filter ++ (table_text t.speed ++ rest))),
      table_again total t.pulse (table_text t.filter ++ (table_text t.speed ++ rest)),
      table_again total t.filter (table_text t.speed ++ rest),
      table_again total t.speed rest,
    ) refl
