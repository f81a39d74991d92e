-- What the code of the effect step leaves.
use Rattle.std.proofs.Common.{◌≡◌, ◌≢◌, ℕ, ◌+◌, ◌*◌, ◌/◌, ◌%◌, ◌<◌, ◌≤◌}
use Rattle.std.proofs.Common.{◌⊎◌, Bool, true, false, inl, inr}
use Rattle.std.proofs.Common.{refl, sym, ap, ◌∙◌, subst, arith, nat_lt, if◌then◌else◌}
use Rattle.std.proofs.lemmas.Bool.{leb-true, leb-false, not-true, not-false, both_ways, eqb-true, eqb-false, cases_lt}
use Rattle.std.proofs.lemmas.Bool.{le-ltb}
use Rattle.std.proofs.lemmas.Nat.{shr_le}
use Rattle.song_model.specs.declared.tables.TableName.TheVariants.{Speed}
use Rattle.play_model.specs.LookUps.{LookUps}
use Rattle.play_model.specs.Wrap.{shifted_right}
use Rattle.play_model.specs.Freq.{freq, half_tone, slide}
use Rattle.player_memory.specs.declared.labels.TheConstants.{COMMAND, PARAM, LAST_NOTE, SPEED_LEFTS, SLIDES_LOW}
use Rattle.player_memory.specs.declared.labels.TheConstants.{SLIDES_HIGH}
use Rattle.player_memory.specs.declared.conditions.TheConstants.{NOTE_DEPENDENT}
use Rattle.player_desk.proofs.Laws.{VoiceDesk, Leads, Done, body_of, rest_of, joined, loaded, indexed, listed}
use Rattle.player_text.specs.declared.joints.TheConstants.{FOUND, FALLS, DOWN, RISES, UP}
use Rattle.player_text.specs.declared.slide.TheConstants.{STORED}
use Rattle.slide_code.specs.SlideBlock.{slide_tree, IsOf}
use Rattle.slide_code.specs.SlideBlock.{NeedsSpeed}
use Rattle.slide_code.proofs.SlideGrounds.{Running, Tells, IsSlide, HasSpeed, Stands}
use Rattle.slide_code.proofs.SlideGrounds.{AtFound, AtFalls, AtDown, AtRises, AtUp}
use Rattle.slide_code.proofs.SlideGrounds.{slide_ways, found_ways, falls_ways, down_ways, rises_ways, up_ways}
use Rattle.slide_code.proofs.Moves.{tells_over, found_leads, sink_leads, drop_leads, rise_leads, climb_leads}
use Rattle.slide_code.proofs.Rules.{speed_of, plain_speed, calculated_speed}
use Rattle.slide_code.proofs.Tones.{from_speed}
use Rattle.slide_code.proofs.Speeds.{half_tone_small, AtStored, stored_ways, named_ways}
use Rattle.slide_code.proofs.Calculated.{difference_leads}
use Rattle.slide_code.proofs.Swings.{swing_leads}

-- ---- the speed

calculated_small : (right last : ℕ) → (if nat_lt right 16 then shifted_right (half_tone last) right else 0) < 65536
calculated_small right last = by_shift (nat_lt right 16) refl
  where
    by_shift : (z : Bool) → nat_lt right 16 ≡ z →
        (if nat_lt right 16 then shifted_right (half_tone last) right else 0) < 65536
    by_shift true e =
        let whole = half_tone_small last in
        let less = shr_le (half_tone last) right in
        rw e (omega (arith, whole, less))
    by_shift false e = rw e (omega arith)

-- a speed is a word
speed_small : (look : LookUps) (p last : ℕ) → (look.row Speed p).right < 256 → slide look p last < 65536
speed_small look p last few =
    elim (cases_lt (look.row Speed p).left 128) [
      | inl plain ↦ let e = plain_speed look p last plain in omega (arith, e, plain, few)
      | inr high ↦
          let e = calculated_speed look p last high in
          let l = calculated_small (look.row Speed p).right last in
          omega (arith, e, l)
    ]

-- the slide of a row whose left side is below $80 stands before the block
plain_speed_has : (g : Running) (m : VoiceDesk) → Stands g → (g.look.row Speed g.s.voice.param).left < 128 →
    m.slide_low ≡ g.before.slide_low → m.slide_high ≡ g.before.slide_high → HasSpeed g (speed_of g.look g.s.voice) m
plain_speed_has g m on plain low high = record {
  low = subst (IsSlide g.r SLIDES_LOW g.s.voice.param m.slide_low) right_is (rw low (on.row.low plain));
  high = subst (IsSlide g.r SLIDES_HIGH g.s.voice.param m.slide_high) left_is (rw high (on.row.high plain));
  small = speed_small g.look g.s.voice.param g.s.voice.last_note on.row.right_byte;
}
  where
    e : speed_of g.look g.s.voice
        ≡ 256 * (g.look.row Speed g.s.voice.param).left + (g.look.row Speed g.s.voice.param).right
    e = plain_speed g.look g.s.voice.param g.s.voice.last_note plain

    right_is : (g.look.row Speed g.s.voice.param).right ≡ speed_of g.look g.s.voice % 256
    right_is = (let l = on.row.right_byte in omega (arith, e, l))

    left_is : (g.look.row Speed g.s.voice.param).left ≡ speed_of g.look g.s.voice / 256
    left_is = (let l = on.row.right_byte in omega (arith, e, l))

stored_leads : (g : Running) (m : VoiceDesk) → Stands g → g.r.layout.holds NOTE_DEPENDENT ≡ true →
    Tells g g.s.voice m → m.slide_low ≡ g.before.slide_low → m.slide_high ≡ g.before.slide_high →
    m.y ≡ g.s.voice.param → Leads g.r (body_of STORED from_speed) (stored_ways g) m
stored_leads g m on kept tells low high y =
    listed SPEED_LEFTS g.s.voice.param (g.look.row Speed g.s.voice.param).left on.row.left y
    (λ b e. (
      λ plus.
          let plain : (g.look.row Speed g.s.voice.param).left < 128 =
          (let l = leb-false 128 b (not-true _ plus) in omega (arith, l, e)) in
          let has = plain_speed_has g m on plain low high in
          record {
            tells = tells_over g g.s.voice m (loaded b m) refl refl refl refl refl tells;
            y = y;
            has = λ needs. record { low = has.low; high = has.high; small = has.small };
          },
      λ minus.
          let from : 128 ≤ (g.look.row Speed g.s.voice.param).left =
          (let l = leb-true 128 b (not-false _ minus) in omega (arith, l, e)) in
          difference_leads g (indexed (m.own LAST_NOTE) (loaded b m)) on kept from
          (speed_small g.look g.s.voice.param g.s.voice.last_note on.row.right_byte) (record {
            tells =
                tells_over g g.s.voice m (indexed (m.own LAST_NOTE) (loaded b m)) refl refl refl refl refl tells;
            is = tells.done.fields.last_note kept;
          }),
    ))

named_leads : (g : Running) (m : VoiceDesk) → Stands g → IsOf g.command g.s.voice.command → AtStored g m →
    Leads g.r (rest_of STORED from_speed) (named_ways g) m
named_leads g m on its at = (
  λ some.
      swing_leads g (loaded (m.own COMMAND) m) on (record {
        tells = tells_over g g.s.voice m (loaded (m.own COMMAND) m) refl refl refl refl refl at.tells;
        a = own its (eqb-false (m.own COMMAND) 0 (not-true _ some));
        y = at.y;
        has = λ needs. (let has = at.has needs in record { low = has.low; high = has.high; small = has.small });
      }),
  λ none.
      swing_leads g (loaded 4 (loaded (m.own COMMAND) m)) on (record {
        tells = tells_over g g.s.voice m (loaded 4 (loaded (m.own COMMAND) m)) refl refl refl refl refl at.tells;
        a = four its (eqb-true (m.own COMMAND) 0 (not-false _ none));
        y = at.y;
        has = λ needs. (let has = at.has needs in record { low = has.low; high = has.high; small = has.small });
      }),
)
  where
    own : IsOf g.command g.s.voice.command → m.own COMMAND ≢ 0 → m.own COMMAND ≡ g.command
    own (inl same) some = at.tells.done.fields.command on.effects ∙ same
    own (inr none) some = absurd (some (at.tells.done.fields.command on.effects ∙ none.0))

    four : IsOf g.command g.s.voice.command → m.own COMMAND ≡ 0 → 4 ≡ g.command
    four (inl same) none =
        absurd (let c = at.tells.done.fields.command on.effects in let l = on.least in omega (arith, none, c, same, l))
    four (inr is) none = sym is.1

speed_leads : (g : Running) (m : VoiceDesk) → Stands g → IsOf g.command g.s.voice.command → Tells g g.s.voice m →
    m.slide_low ≡ g.before.slide_low → m.slide_high ≡ g.before.slide_high → m.a ≡ g.command →
    m.y ≡ g.s.voice.param → Leads g.r from_speed (up_ways g) m
speed_leads g m on its tells low high a y = (
  λ kept.
      joined true g.r STORED (body_of STORED from_speed) (rest_of STORED from_speed) (AtStored g) (named_ways g) m
      (stored_leads g m on kept tells low high y) (λ n stored. named_leads g n on its stored),
  λ out.
      swing_leads g m on (record {
        tells = tells;
        a = a;
        y = y;
        has = λ needs. plain_speed_has g m on (plain_left out needs) low high;
      }),
)
  where
    plain_left : g.r.layout.holds NOTE_DEPENDENT ≡ false → NeedsSpeed g.command g.s.voice.param →
        (g.look.row Speed g.s.voice.param).left < 128
    plain_left out needs =
        elim (cases_lt (g.look.row Speed g.s.voice.param).left 128) [
          | inl plain ↦ plain
          | inr from ↦ absurd (both_ways (g.r.layout.holds NOTE_DEPENDENT) out (on.keeps.calculates needs from))
        ]

-- ---- the law

-- no note has a frequency from there on
none_beyond : (note : ℕ) → 96 ≤ note → freq note ≡ 0
unfolding freq
none_beyond note far = (let e : nat_lt note 96 ≡ false = le-ltb note 96 far in rw e refl)

-- a note's number is it without bit 7: it sounds as it, or as none
pub note_sounds : (note : ℕ) → (note < 128) ⊎ (224 ≤ note) → note < 256 → freq (note % 128) ≡ freq note
note_sounds note (inl low) byte = ap freq (omega (arith, low))
note_sounds note (inr high) byte =
    none_beyond (note % 128) (omega (arith, high, byte)) ∙ sym (none_beyond note (omega (arith, high)))

-- On the desk of a voice with the command that runs in A, the code leaves what its rule says: it comes to its end with
-- the number of a note in A that the rule sets, or leaves EFFECTED with the voice as the rule leaves it. Slides of rows
-- whose left side is below $80 stay.
pub slide_leads : (g : Running) → Stands g → IsOf g.command g.s.voice.command →
    g.before.a ≡ g.command → Done g.r.layout.holds g.r.voice g.s g.handed g.d g.before →
    Leads g.r slide_tree (slide_ways g) g.before
slide_leads g on its a done = (
  λ kept.
      joined true g.r FOUND (body_of FOUND slide_tree) (rest_of FOUND slide_tree) (AtFound g) (slide_ways g) g.before
      (joined true g.r FALLS (body_of FALLS slide_tree) (rest_of FALLS slide_tree) (AtFalls g) (found_ways g) g.before
      (joined true g.r DOWN (body_of DOWN slide_tree) (rest_of DOWN slide_tree) (AtDown g) (falls_ways g) g.before
      (joined true g.r RISES (body_of RISES slide_tree) (rest_of RISES slide_tree) (AtRises g) (down_ways g) g.before
      (joined true g.r UP (body_of UP slide_tree) (rest_of UP slide_tree) (AtUp g) (rises_ways g) g.before
      (speed_leads g (indexed (g.before.own PARAM) g.before) on its
      (tells_over g g.s.voice g.before (indexed (g.before.own PARAM) g.before) refl refl refl refl refl
      (record { done = done; slides = record { low = λ row plain. refl; high = λ row plain. refl } })) refl refl a
      (done.fields.param on.effects))
      (λ n up. climb_leads g n on.row.places on.small up))
      (λ n rises. rise_leads g n on.row.places rises))
      (λ n down. drop_leads g n on.row.places on.small down))
      (λ n falls. sink_leads g n on.row.places falls))
      (λ n found. found_leads g n on.sounds found),
  λ out. absurd (both_ways _ out on.effects),
)
