-- What the code of the filter step leaves.
use Rattle.std.proofs.Common.{◌≡◌, ◌≢◌, ℕ, zero, suc, ◌+◌, ◌%◌, ◌<◌, ◌≤◌, Bool, true, false}
use Rattle.std.proofs.Common.{nat_eq, inl, inr}
use Rattle.std.proofs.Common.{slice_index, bit_and, bit_or, refl, sym, ap, ◌∙◌, arith}
use Rattle.std.proofs.lemmas.Bool.{leb-true, leb-false, not-true, not-false, eqb-true, eqb-false, eq-eqb, ne_eqb}
use Rattle.std.proofs.lemmas.Bool.{both_ways}
use Rattle.std.proofs.lemmas.Bool.Decides.{eqb_tells}
use Rattle.code_runs.specs.Runs.{put}
use Rattle.code_runs.proofs.Laws.{put_other}
use Rattle.song_model.specs.declared.tables.TableRow.{TableRow}
use Rattle.song_model.specs.declared.tables.TableName.TheVariants.{Filter}
use Rattle.play_model.specs.LookUps.{LookUps}
use Rattle.play_model.specs.Wrap.{byte_plus, byte_minus}
use Rattle.play_model.specs.State.{Common}
use Rattle.play_model.specs.Helpers.{next_row}
use Rattle.play_model.specs.FilterStep.{filter_step, filter_row, filter_slide}
use Rattle.play_model.specs.Frame.{filter_registers}
use Rattle.scopes.specs.Trees.{Tree, ThenTree, NeverTree}
use Rattle.player_memory.specs.declared.labels.TheConstants.{FILTER_POINTER, FILTER_TIME, FILTER_TYPE, CUTOFF}
use Rattle.player_memory.specs.declared.labels.TheConstants.{FILTER_CONTROL, VOLUME, FUNK_ONE, FUNK_TWO}
use Rattle.player_memory.specs.declared.labels.TheConstants.{FILTER_LEFTS, FILTER_RIGHTS, NEXT_FILTER_LEFTS}
use Rattle.player_memory.specs.declared.conditions.TheConstants.{FILTER_TABLE, FILTER_USED, SET_VOLUME}
use Rattle.player_memory.specs.declared.conditions.TheConstants.{FUNK_TEMPO}
use Rattle.player_memory.specs.FactLines.{KeepsShared}
use Rattle.player_desk.proofs.Laws.{VoiceDesk, Reader, Ways, LeadsAlone, done_as, in_scope, body_of, rest_of, joined}
use Rattle.player_desk.proofs.Laws.{goes_on, loaded, indexed, ends}
use Rattle.player_desk.proofs.Laws.{Shared, SameLent, CommonDone, SharedDone, Reads, listed, place_at}
use Rattle.player_text.specs.declared.filter.TheConstants.{JUDGED, NEXT, MOVES}
use Rattle.filter_code.specs.FilterBlock.{filter_tree}
use Rattle.filter_code.proofs.FilterRows.{step_none, step_some, row_pairs, row_sets, row_cuts, row_begins, row_runs}
use Rattle.filter_code.proofs.FilterRows.{slid, slide_ends, slide_stays, jumps_to, steps_to}

-- ---- what the code stands on

-- a row of the filter table, and the row behind it
pub record RowAt (r : Reader) (look : LookUps) (p : ℕ) : Type 0 where
  pub left : Reads r (place_at r FILTER_LEFTS p) (look.row Filter p).left
  pub right : Reads r (place_at r FILTER_RIGHTS p) (look.row Filter p).right

pub record NextAt (r : Reader) (look : LookUps) (p : ℕ) : Type 0 where
  pub left : Reads r (place_at r NEXT_FILTER_LEFTS p) (look.row Filter (p + 1)).left
  pub right : Reads r (place_at r FILTER_RIGHTS (p + 1)) (look.row Filter (p + 1)).right
  pub left_byte : (look.row Filter (p + 1)).left < 256
  pub below : p + 1 < 256

pub record FilterGround (r : Reader) (look : LookUps) (p : ℕ) : Type 0 where
  pub row : p ≢ 0 → RowAt r look p
  pub next : p ≢ 0 → NextAt r look p
  pub pair : p ≢ 0 → 0x80 ≤ (look.row Filter p).left → (look.row Filter (p + 1)).left ≡ 0 → NextAt r look (p + 1)

-- ---- what holds on the way

-- this state stands
record Stands (r : Reader) (d : VoiceDesk) (c : Common) (m : VoiceDesk) : Type 0 where
  done : CommonDone r.layout.holds c d m
  sid : m.sid ≡ d.sid

-- the bytes that the voices share, where the filter is used
record FilterBytes (holds : ℕ → Bool) (c : Common) (shared : ℕ → ℕ) : Type 0 where
  filter_ptr : shared FILTER_POINTER ≡ c.filter_ptr
  filter_time : shared FILTER_TIME ≡ c.filter_time
  filter_type : shared FILTER_TYPE ≡ c.filter_type
  filter_control : shared FILTER_CONTROL ≡ c.filter_control
  cutoff : shared CUTOFF ≡ c.cutoff
  volume : holds SET_VOLUME ≡ true → shared VOLUME ≡ c.volume
  no_volume : holds SET_VOLUME ≡ false → c.volume ≡ 15
  funk_one : holds FUNK_TEMPO ≡ true → shared FUNK_ONE ≡ c.funk_one
  funk_two : holds FUNK_TEMPO ≡ true → shared FUNK_TWO ≡ c.funk_two

filters_of : (holds : ℕ → Bool) (c : Common) (shared : ℕ → ℕ) → holds FILTER_USED ≡ true → Shared holds c shared →
    FilterBytes holds c shared
filters_of holds c shared used f = record {
  filter_ptr = f.filter_ptr;
  filter_time = f.filter_time;
  filter_type = f.filter_type used;
  filter_control = f.filter_control used;
  cutoff = f.cutoff used;
  volume = f.volume;
  no_volume = f.no_volume;
  funk_one = f.funk_one;
  funk_two = f.funk_two;
}

filters_shared : (holds : ℕ → Bool) (c : Common) (shared : ℕ → ℕ) → holds FILTER_USED ≡ true →
    FilterBytes holds c shared → Shared holds c shared
filters_shared holds c shared used f = record {
  filter_ptr = f.filter_ptr;
  filter_time = f.filter_time;
  filter_type = λ on. f.filter_type;
  no_filter_type = λ off. absurd (both_ways (holds FILTER_USED) off used);
  filter_control = λ on. f.filter_control;
  no_filter_control = λ off. absurd (both_ways (holds FILTER_USED) off used);
  cutoff = λ on. f.cutoff;
  no_cutoff = λ off. absurd (both_ways (holds FILTER_USED) off used);
  volume = f.volume;
  no_volume = f.no_volume;
  funk_one = f.funk_one;
  funk_two = f.funk_two;
}

stands : (r : Reader) (d : VoiceDesk) (c e : Common) (m n : VoiceDesk) → n.own ≡ m.own → n.slide_low ≡ m.slide_low →
    n.slide_high ≡ m.slide_high → n.sid ≡ m.sid → Shared r.layout.holds e n.shared → SameLent n.shared d.shared →
    Stands r d c m → Stands r d e n
stands r d c e m n own low high sid common lent at = record {
  done = record {
    common = common;
    lent = lent;
    own = own ∙ at.done.own;
    slide_low = low ∙ at.done.slide_low;
    slide_high = high ∙ at.done.slide_high;
  };
  sid = sid ∙ at.sid;
}

-- the bytes of the filter have changed, which is used
filters_stand : (r : Reader) (d : VoiceDesk) (c e : Common) (m n : VoiceDesk) → r.layout.holds FILTER_USED ≡ true →
    n.own ≡ m.own → n.slide_low ≡ m.slide_low → n.slide_high ≡ m.slide_high → n.sid ≡ m.sid →
    FilterBytes r.layout.holds e n.shared → SameLent n.shared d.shared → Stands r d c m → Stands r d e n
filters_stand r d c e m n used own low high sid filters lent at =
    stands r d c e m n own low high sid (filters_shared r.layout.holds e n.shared used filters) lent at

-- registers of the processor alone have changed
stands_over : (r : Reader) (d : VoiceDesk) (c : Common) (m n : VoiceDesk) → n.own ≡ m.own →
    n.slide_low ≡ m.slide_low → n.slide_high ≡ m.slide_high → n.sid ≡ m.sid → n.shared ≡ m.shared →
    Stands r d c m → Stands r d c n
stands_over r d c m n own low high sid shared at =
    stands r d c c m n own low high sid (rw shared at.done.common) (rw shared at.done.lent) at

-- the same state by another name
stands_by : (r : Reader) (d : VoiceDesk) (c e : Common) (m : VoiceDesk) → e ≡ c → Stands r d c m → Stands r d e m
stands_by r d c e m same at = rw same at

-- and Y is the row
record Here (r : Reader) (d : VoiceDesk) (c : Common) (p : ℕ) (m : VoiceDesk) : Type 0 where
  at : Stands r d c m
  y : m.y ≡ p

-- a frame of a slide, which has this time left
record AtMoves (r : Reader) (look : LookUps) (c : Common) (d m : VoiceDesk) : Type 0 where
  time : ℕ
  here : Here r d (record c { filter_time = time }) c.filter_ptr m
  is : filter_row look (look.row Filter c.filter_ptr) c ≡ filter_slide look (look.row Filter c.filter_ptr) time c

-- the program goes on behind a row
record AtNext (r : Reader) (look : LookUps) (c : Common) (d m : VoiceDesk) : Type 0 where
  b : Common
  p : ℕ
  here : Here r d b p m
  next : NextAt r look p
  is : filter_row look (look.row Filter c.filter_ptr) c ≡ record b { filter_ptr = next_row look Filter p }

-- and A is the left side of the next one
record AtJudged (r : Reader) (look : LookUps) (c : Common) (d m : VoiceDesk) : Type 0 where
  at : AtNext r look c d m
  a : m.a ≡ (look.row Filter (at.p + 1)).left

-- ---- the step

abbrev Stepped : Reader → LookUps → Common → VoiceDesk → VoiceDesk → Type 0
Stepped r look c d m = Stands r d (filter_step look c) m

-- a row begins, or its slide goes on
moves_leads : (r : Reader) (look : LookUps) (c : Common) (d m : VoiceDesk) (ways : Ways) →
    r.layout.holds FILTER_USED ≡ true → c.filter_ptr ≢ 0 →
    FilterGround r look c.filter_ptr → Here r d c c.filter_ptr m →
    LeadsAlone r (body_of MOVES filter_tree)
    (in_scope MOVES (done_as (AtMoves r look c d)
    (in_scope NEXT (done_as (AtNext r look c d) (in_scope JUDGED (done_as (AtJudged r look c d) ways)))))) m
moves_leads r look c d m ways used some ground here = (
  λ runs.
      let is : m.shared FILTER_TIME ≡ c.filter_time = here.at.done.common.filter_time in
      let on : c.filter_time ≢ 0 = λ e. eqb-false _ 0 (not-true _ runs) (is ∙ e) in record {
        time = c.filter_time;
        here = record { at = stands_over r d c m _ refl refl refl refl refl here.at; y = here.y };
        is = row_runs look line c on;
      },
  λ over.
      let none : c.filter_time ≡ 0 = sym here.at.done.common.filter_time ∙ eqb-true _ 0 (not-false _ over) in
      listed FILTER_LEFTS c.filter_ptr line.left row.left here.y
      (λ b e. (
        λ zero.
            listed FILTER_RIGHTS c.filter_ptr line.right row.right here.y
            (λ q f. record {
              b = record c { cutoff = line.right };
              p = c.filter_ptr;
              here = record {
                at =
                    filters_stand r d c _ m _ used refl refl refl refl (assumption (f, filters))
                    (assumption here.at.done.lent) here.at;
                y = here.y;
              };
              next = ground.next some;
              is = row_cuts look line c none (sym e ∙ eqb-true b 0 zero);
            }),
        λ not_zero. (
          λ plus.
              let below = leb-false 128 b (not-true _ plus) in
              let low : line.left < 0x80 = omega (arith, below, e) in record {
                time = line.left;
                here = record {
                  at =
                      filters_stand r d c _ m _ used refl refl refl refl (assumption (e, filters))
                      (assumption here.at.done.lent) here.at;
                  y = here.y;
                };
                is = row_begins look line c none (λ z. eqb-false b 0 not_zero (e ∙ z)) low;
              },
          λ minus.
              let high : 0x80 ≤ line.left = (let z = leb-true 128 b (not-false _ minus) in omega (arith, z, e)) in
              let kind : bit_and b 0x70 ≡ bit_and line.left 0x70 = ap (λ n. bit_and n 0x70) e in
              listed FILTER_RIGHTS c.filter_ptr line.right row.right here.y
              (λ q f.
              listed NEXT_FILTER_LEFTS c.filter_ptr following.left next.left here.y
              (λ k g. (
                λ alone. record {
                  at = record {
                    b = record c { filter_type = bit_and line.left 0x70; filter_control = line.right };
                    p = c.filter_ptr;
                    here = record {
                      at =
                          filters_stand r d c _ m _ used refl refl refl refl (assumption (kind, f, filters))
                          (assumption here.at.done.lent) here.at;
                      y = here.y;
                    };
                    next = next;
                    is = row_sets look line c none high (λ z. eqb-false k 0 (not-true _ alone) (g ∙ z));
                  };
                  a = g;
                },
                λ pair.
                    let zero : following.left ≡ 0 = sym g ∙ eqb-true k 0 (not-false _ pair) in
                    listed FILTER_RIGHTS (c.filter_ptr + 1) following.right next.right
                    (ap (λ y. (y + 1) % 256) here.y ∙ (let l = next.below in omega (arith, l)))
                    (λ u h. record {
                      b = record c {
                        filter_type = bit_and line.left 0x70;
                        filter_control = line.right;
                        cutoff = following.right;
                      };
                      p = c.filter_ptr + 1;
                      here = record {
                        at =
                            filters_stand r d c _ m _ used refl refl refl refl (assumption (kind, f, h, filters))
                            (assumption here.at.done.lent) here.at;
                        y = ap (λ y. (y + 1) % 256) here.y ∙ (let l = next.below in omega (arith, l));
                      };
                      next = ground.pair some high zero;
                      is = row_pairs look line c none high zero;
                    }),
              ))),
        ),
      )),
)
  where
    line : TableRow
    line = look.row Filter c.filter_ptr

    following : TableRow
    following = look.row Filter (c.filter_ptr + 1)

    row : RowAt r look c.filter_ptr
    row = ground.row some

    next : NextAt r look c.filter_ptr
    next = ground.next some

    filters : FilterBytes r.layout.holds c m.shared
    filters = filters_of r.layout.holds c m.shared used here.at.done.common

-- a frame of the slide
slides_lead : (r : Reader) (look : LookUps) (c : Common) (d m : VoiceDesk) (ways : Ways) →
    r.layout.holds FILTER_USED ≡ true → c.filter_ptr ≢ 0 →
    FilterGround r look c.filter_ptr → AtMoves r look c d m →
    LeadsAlone r (rest_of MOVES filter_tree)
    (in_scope NEXT (done_as (AtNext r look c d)
    (in_scope JUDGED (done_as (AtJudged r look c d) (in_scope 0 (done_as (Stepped r look c d) ways))))))
    m
slides_lead r look c d m ways used some ground at =
    listed FILTER_RIGHTS c.filter_ptr line.right (ground.row some).right at.here.y
    (λ b e.
    let cutoff : (m.shared CUTOFF + b + 0) % 256 ≡ byte_plus c.cutoff line.right =
    (let f = filters.cutoff in omega (arith, e, f)) in
    let time : (m.shared FILTER_TIME + 255) % 256 ≡ byte_minus at.time 1 =
    (let f = filters.filter_time in omega (arith, f)) in (
      λ runs.
          let left : nat_eq (byte_minus at.time 1) 0 ≡ false =
          ne_eqb (byte_minus at.time 1) 0 (λ z. eqb-false ((m.shared FILTER_TIME + 255) % 256) 0 (not-true _ runs)
          (time ∙ z)) in
          stands_by r d (slid line at.time c) _ _
          (step_some look c some ∙ (at.is ∙ slide_stays look line at.time c left))
          (filters_stand r d _ (slid line at.time c) m _ used refl refl refl refl (assumption (cutoff, time, filters))
          (assumption at.here.at.done.lent) at.here.at),
      λ over.
          let left : nat_eq (byte_minus at.time 1) 0 ≡ true =
          eq-eqb (byte_minus at.time 1) 0
          (sym time ∙ eqb-true ((m.shared FILTER_TIME + 255) % 256) 0 (not-false _ over)) in
          record {
            b = slid line at.time c;
            p = c.filter_ptr;
            here = record {
              at =
                  filters_stand r d _ (slid line at.time c) m _ used refl refl refl refl
                  (assumption (cutoff, time, filters)) (assumption at.here.at.done.lent) at.here.at;
              y = at.here.y;
            };
            next = ground.next some;
            is = at.is ∙ slide_ends look line at.time c left;
          },
    ))
  where
    line : TableRow
    line = look.row Filter c.filter_ptr

    filters : FilterBytes r.layout.holds (record c { filter_time = at.time }) m.shared
    filters = filters_of r.layout.holds (record c { filter_time = at.time }) m.shared used at.here.at.done.common

-- the next row's left side is loaded
judged_leads : (r : Reader) (look : LookUps) (c : Common) (d m : VoiceDesk) (ways : Ways) → AtNext r look c d m →
    LeadsAlone r (rest_of NEXT filter_tree) (in_scope JUDGED (done_as (AtJudged r look c d) ways)) m
judged_leads r look c d m ways at =
    listed NEXT_FILTER_LEFTS at.p (look.row Filter (at.p + 1)).left at.next.left at.here.y
    (λ b e. record {
      at = record {
        b = at.b;
        p = at.p;
        here = record { at = stands_over r d at.b m _ refl refl refl refl refl at.here.at; y = at.here.y };
        next = at.next;
        is = at.is;
      };
      a = e;
    })

-- the program goes on to it
rows_lead : (r : Reader) (look : LookUps) (c : Common) (d m : VoiceDesk) (ways : Ways) → c.filter_ptr ≢ 0 →
    AtJudged r look c d m →
    LeadsAlone r (rest_of JUDGED filter_tree) (in_scope 0 (done_as (Stepped r look c d) ways)) m
rows_lead r look c d m ways some judged = (
  λ goes.
      let other : following.left ≢ 0xFF =
      λ z. (let f = leb-false 255 m.a (not-true _ goes) in let e = judged.a in omega (arith, f, e, z)) in
      on _ ((m.y + 1) % 256) refl refl refl refl refl
      (ap (λ y. (y + 1) % 256) at.here.y ∙ sym (steps_to look at.p other)),
  λ jumps.
      let last : following.left ≡ 0xFF =
      (let f = leb-true 255 m.a (not-false _ jumps) in
      let e = judged.a in
      let l = at.next.left_byte in omega (arith, f, e, l)) in
      listed FILTER_RIGHTS (at.p + 1) following.right at.next.right
      (ap (λ y. (y + 1) % 256) at.here.y ∙ (let l = at.next.below in omega (arith, l)))
      (λ b e. on _ b refl refl refl refl refl (e ∙ sym (jumps_to look at.p last))),
)
  where
    at : AtNext r look c d m
    at = judged.at

    following : TableRow
    following = look.row Filter (at.p + 1)

    on : (n : VoiceDesk) (p : ℕ) → n.own ≡ m.own → n.slide_low ≡ m.slide_low → n.slide_high ≡ m.slide_high →
        n.sid ≡ m.sid → n.shared ≡ put m.shared FILTER_POINTER p → p ≡ next_row look Filter at.p → Stepped r look c d n
    on n p own low high sid shared is =
        let common : Shared r.layout.holds (record at.b { filter_ptr = next_row look Filter at.p })
        (put m.shared FILTER_POINTER p) =
        assumption (is, at.here.at.done.common) in
        let lent : SameLent (put m.shared FILTER_POINTER p) d.shared = assumption at.here.at.done.lent in
        stands_by r d (record at.b { filter_ptr = next_row look Filter at.p }) _ n
        (step_some look c some ∙ at.is)
        (stands r d at.b _ m n own low high sid (rw shared common) (rw shared lent) at.here.at)

-- ---- the registers

abbrev first_of : Tree → Tree
first_of (ThenTree first rest) = first
first_of tree = NeverTree

abbrev behind_first : Tree → Tree
behind_first (ThenTree first rest) = rest
behind_first tree = NeverTree

-- the registers 21 to 24 are those of the frame
four_are : (c : Common) (sid : ℕ → ℕ) (number : ℕ) → number < 4 →
    put (put (put (put sid 21 0) 22 c.cutoff) 23 c.filter_control) 24 (bit_or c.filter_type c.volume) (21 + number)
    ≡ slice_index (filter_registers c) number
unfolding filter_registers
four_are c sid zero few = refl
four_are c sid (suc zero) few = refl
four_are c sid (suc (suc zero)) few = refl
four_are c sid (suc (suc (suc zero))) few = refl
four_are c sid (suc (suc (suc (suc more)))) few = absurd (omega (arith, few))

others_stay : (sid : ℕ → ℕ) (one two three four register : ℕ) → register < 21 →
    put (put (put (put sid 21 one) 22 two) 23 three) 24 four register ≡ sid register
others_stay sid one two three four register few =
    put_other (put (put (put sid 21 one) 22 two) 23 three) 24 four register (λ e. omega (arith, few, e))
    ∙ (put_other (put (put sid 21 one) 22 two) 23 three register (λ e. omega (arith, few, e))
    ∙ (put_other (put sid 21 one) 22 two register (λ e. omega (arith, few, e))
    ∙ put_other sid 21 one register (λ e. omega (arith, few, e))))

-- from the cutoff on, from the control, from the kind, and from the volume
abbrev registers_tree : Tree
registers_tree = behind_first filter_tree

abbrev from_cutoff : Tree
from_cutoff = behind_first (behind_first registers_tree)

abbrev from_control : Tree
from_control = behind_first (behind_first from_cutoff)

abbrev from_kind : Tree
from_kind = behind_first (behind_first from_control)

abbrev from_volume : Tree
from_volume = behind_first from_kind

-- A is this byte, and these are in the registers
record AtByte (r : Reader) (c : Common) (d : VoiceDesk) (byte : ℕ) (registers : ℕ → ℕ) (m : VoiceDesk) : Type 0 where
  done : CommonDone r.layout.holds c d m
  a : m.a ≡ byte
  sid : m.sid ≡ registers

-- A and the registers alone have changed
at_byte : (r : Reader) (c : Common) (d m n : VoiceDesk) (byte : ℕ) (sid : ℕ → ℕ) → n.own ≡ m.own →
    n.slide_low ≡ m.slide_low → n.slide_high ≡ m.slide_high → n.shared ≡ m.shared → n.a ≡ byte → n.sid ≡ sid →
    CommonDone r.layout.holds c d m → AtByte r c d byte sid n
at_byte r c d m n byte sid own low high shared a is done = record {
  done = record {
    common = rw shared done.common;
    lent = rw shared done.lent;
    own = own ∙ done.own;
    slide_low = low ∙ done.slide_low;
    slide_high = high ∙ done.slide_high;
  };
  a = a;
  sid = is;
}

-- a byte of the filter is loaded where it is used; where it isn't, it is 0 as A is
cutoff_leads : (r : Reader) (c : Common) (d m : VoiceDesk) (sid : ℕ → ℕ) → AtByte r c d 0 sid m →
    LeadsAlone r (first_of from_cutoff) (ends (AtByte r c d c.cutoff sid)) m
cutoff_leads r c d m sid at = (
  λ used. at_byte r c d m _ c.cutoff sid refl refl refl refl (at.done.common.cutoff used) at.sid at.done,
  λ unused.
      at_byte r c d m m c.cutoff sid refl refl refl refl (at.a ∙ sym (at.done.common.no_cutoff unused)) at.sid at.done,
)

control_leads : (r : Reader) (c : Common) (d m : VoiceDesk) (sid : ℕ → ℕ) → AtByte r c d c.cutoff sid m →
    LeadsAlone r (first_of from_control) (ends (AtByte r c d c.filter_control sid)) m
control_leads r c d m sid at = (
  λ used.
      at_byte r c d m _ c.filter_control sid refl refl refl refl (at.done.common.filter_control used) at.sid at.done,
  λ unused.
      at_byte r c d m m c.filter_control sid refl refl refl refl
      (at.a ∙ (at.done.common.no_cutoff unused ∙ sym (at.done.common.no_filter_control unused))) at.sid at.done,
)

kind_leads : (r : Reader) (c : Common) (d m : VoiceDesk) (sid : ℕ → ℕ) → AtByte r c d c.filter_control sid m →
    LeadsAlone r (first_of from_kind) (ends (AtByte r c d c.filter_type sid)) m
kind_leads r c d m sid at = (
  λ used. at_byte r c d m _ c.filter_type sid refl refl refl refl (at.done.common.filter_type used) at.sid at.done,
  λ unused.
      at_byte r c d m m c.filter_type sid refl refl refl refl
      (at.a ∙ (at.done.common.no_filter_control unused ∙ sym (at.done.common.no_filter_type unused))) at.sid at.done,
)

-- the volume is added, which is 15 where none is set
volume_leads : (r : Reader) (c : Common) (d m : VoiceDesk) (sid : ℕ → ℕ) → AtByte r c d c.filter_type sid m →
    LeadsAlone r (first_of from_volume) (ends (AtByte r c d (bit_or c.filter_type c.volume) sid)) m
volume_leads r c d m sid at = (
  λ set.
      at_byte r c d m _ (bit_or c.filter_type c.volume) sid refl refl refl refl (both at.a (at.done.common.volume set))
      at.sid at.done,
  λ unset.
      at_byte r c d m _ (bit_or c.filter_type c.volume) sid refl refl refl refl
      (both at.a (sym (at.done.common.no_volume unset))) at.sid at.done,
)
  where
    both : {kind volume : ℕ} → kind ≡ c.filter_type → volume ≡ c.volume →
        bit_or kind volume ≡ bit_or c.filter_type c.volume
    both e f = rw (e, f) refl

-- A is written to a register
abbrev in_register : ℕ → VoiceDesk → VoiceDesk
in_register register m = record m { sid = put m.sid register m.a }

registers_lead : (r : Reader) (c : Common) (d m : VoiceDesk) → Stands r d c m →
    LeadsAlone r registers_tree (ends (SharedDone r.layout.holds c (filter_registers c) d)) m
registers_lead r c d m at =
    goes_on false r (first_of from_cutoff) (behind_first from_cutoff) (AtByte r c d c.cutoff one) ways
    (in_register 21 (loaded 0 m))
    (cutoff_leads r c d (in_register 21 (loaded 0 m)) one
    (at_byte r c d m (in_register 21 (loaded 0 m)) 0 one refl refl refl refl refl
    (ap (λ sid. put sid 21 0) at.sid) at.done))
    (λ k cut.
    goes_on false r (first_of from_control) (behind_first from_control) (AtByte r c d c.filter_control two) ways
    (in_register 22 k)
    (control_leads r c d (in_register 22 k) two
    (at_byte r c d k (in_register 22 k) c.cutoff two refl refl refl refl cut.a (stored 22 cut.sid cut.a) cut.done))
    (λ l controls.
    goes_on false r (first_of from_kind) (behind_first from_kind) (AtByte r c d c.filter_type three) ways
    (in_register 23 l)
    (kind_leads r c d (in_register 23 l) three
    (at_byte r c d l (in_register 23 l) c.filter_control three refl refl refl refl controls.a
    (stored 23 controls.sid controls.a) controls.done))
    (λ n kind.
    goes_on false r (first_of from_volume) (behind_first from_volume)
    (AtByte r c d (bit_or c.filter_type c.volume) three) ways n
    (volume_leads r c d n three kind)
    (λ o loud. record {
      done = record {
        common = loud.done.common;
        lent = loud.done.lent;
        own = loud.done.own;
        slide_low = loud.done.slide_low;
        slide_high = loud.done.slide_high;
      };
      last = λ number few. (let a = loud.a in let sid = loud.sid in rw (sid, a) (four_are c d.sid number few));
      registers = λ register few.
          (let a = loud.a in let sid = loud.sid in rw (sid, a) (others_stay d.sid _ _ _ _ register few));
    }))))
  where
    ways : Ways
    ways = ends (SharedDone r.layout.holds c (filter_registers c) d)

    one : ℕ → ℕ
    one = put d.sid 21 0

    two : ℕ → ℕ
    two = put one 22 c.cutoff

    three : ℕ → ℕ
    three = put two 23 c.filter_control

    stored : {sid its : ℕ → ℕ} {a byte : ℕ} (register : ℕ) → sid ≡ its → a ≡ byte →
        put sid register a ≡ put its register byte
    stored register e f = rw (e, f) refl

-- ---- the law

-- On the desk of code that no voice owns, where the filter program is found, the code leaves what the rule says; where
-- the code of the table isn't kept there is no program.
pub filter_leads : (r : Reader) (look : LookUps) (c : Common) (d : VoiceDesk) → FilterGround r look c.filter_ptr →
    (c.filter_ptr ≢ 0 → r.layout.holds FILTER_TABLE ≡ true) → KeepsShared r.layout →
    CommonDone r.layout.holds c d d →
    LeadsAlone r filter_tree
    (ends (SharedDone r.layout.holds (filter_step look c) (filter_registers (filter_step look c)) d)) d
filter_leads r look c d ground keeps common done =
    goes_on false r (first_of filter_tree) (behind_first filter_tree) (Stepped r look c d) ways d (
      λ kept. (
        λ zero.
            stands_by r d c _ (indexed (d.shared FILTER_POINTER) d)
            (step_none look c (sym done.common.filter_ptr ∙ eqb-true (d.shared FILTER_POINTER) 0 zero))
            (stands_over r d c d _ refl refl refl refl refl here),
        λ not_zero.
            let some : c.filter_ptr ≢ 0 =
            λ e. eqb-false (d.shared FILTER_POINTER) 0 not_zero (done.common.filter_ptr ∙ e) in
            joined false r JUDGED (body_of JUDGED filter_tree) (rest_of JUDGED filter_tree) (AtJudged r look c d) last
            (indexed (d.shared FILTER_POINTER) d)
            (joined false r NEXT (body_of NEXT filter_tree) (rest_of NEXT filter_tree) (AtNext r look c d) judged
            (indexed (d.shared FILTER_POINTER) d)
            (joined false r MOVES (body_of MOVES filter_tree) (rest_of MOVES filter_tree) (AtMoves r look c d) goes
            (indexed (d.shared FILTER_POINTER) d)
            (moves_leads r look c d (indexed (d.shared FILTER_POINTER) d) last (common.filter kept) some ground
            (record { at = stands_over r d c d _ refl refl refl refl refl here; y = done.common.filter_ptr }))
            (λ m at. slides_lead r look c d m ways (common.filter kept) some ground at))
            (λ m at. judged_leads r look c d m last at))
            (λ m at. rows_lead r look c d m ways some at),
      ),
      λ out.
          elim (eqb_tells c.filter_ptr 0) [
            | inl none ↦ stands_by r d c _ d (step_none look c none.1) here
            | inr some ↦ absurd (both_ways (r.layout.holds FILTER_TABLE) out (keeps some.1))
          ],
    )
    (λ m at. registers_lead r (filter_step look c) d m at)
  where
    here : Stands r d c d
    here = record { done = done; sid = refl }

    ways : Ways
    ways = ends (SharedDone r.layout.holds (filter_step look c) (filter_registers (filter_step look c)) d)

    last : Ways
    last = in_scope 0 (done_as (Stepped r look c d) ways)

    judged : Ways
    judged = in_scope JUDGED (done_as (AtJudged r look c d) last)

    goes : Ways
    goes = in_scope NEXT (done_as (AtNext r look c d) judged)
