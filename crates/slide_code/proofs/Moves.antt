-- What the code of a move leaves: up, down, and at the note.
use Rattle.std.proofs.Common.{◌≡◌, ◌+◌, ◌-◌, ◌*◌, ◌/◌, ◌%◌, ◌<◌, ◌≤◌}
use Rattle.std.proofs.Common.{refl, sym, ap, ◌∙◌, arith}
use Rattle.std.proofs.lemmas.Bool.{leb-true, leb-false, not-true, not-false, both_ways}
use Rattle.cpu6502.specs.Registers.{one_if}
use Rattle.play_model.specs.State.{Voice}
use Rattle.play_model.specs.TickStep.{tempo_of}
use Rattle.play_model.specs.Wrap.{freq_plus, freq_minus}
use Rattle.play_model.specs.Freq.{freq}
use Rattle.player_memory.specs.declared.labels.TheConstants.{NOTE, FREQ_LOW, FREQ_HIGH}
use Rattle.player_desk.proofs.Laws.{VoiceDesk, Leads, rest_of, Fields, SameSong, own_done, done_over}
use Rattle.player_text.specs.declared.joints.TheConstants.{FOUND, FALLS, DOWN, RISES, UP}
use Rattle.slide_code.specs.SlideBlock.{slide_tree}
use Rattle.player_memory.specs.Playing.{with_voice}
use Rattle.slide_code.proofs.Words.{IsWord, risen, risen_over, fallen, fallen_under, climbed, dropped}
use Rattle.slide_code.proofs.Words.{plus_twice, minus_twice, minus_small, plus_small}
use Rattle.slide_code.proofs.SlideGrounds.{Running, moved, Tells, SlidesLeft, SlidePlaces, low_read, high_read, set_at}
use Rattle.slide_code.proofs.SlideGrounds.{Effected, AtFound, AtRises, AtFalls, AtUp, AtDown}
use Rattle.slide_code.proofs.SlideGrounds.{slide_ways, found_ways, falls_ways, down_ways, rises_ways}

-- ---- what stays

slides_over : (g : Running) (m n : VoiceDesk) → n.slide_low ≡ m.slide_low → n.slide_high ≡ m.slide_high →
    SlidesLeft g.look g.before m → SlidesLeft g.look g.before n
slides_over g m n low high left =
    record { low = rw low left.low; high = rw high left.high }

-- registers alone have changed
pub tells_over : (g : Running) (v : Voice) (m n : VoiceDesk) → n.own ≡ m.own → n.shared ≡ m.shared → n.sid ≡ m.sid →
    n.slide_low ≡ m.slide_low → n.slide_high ≡ m.slide_high → Tells g v m → Tells g v n
tells_over g v m n own shared sid low high tells = record {
  done = done_over g.r.layout.holds g.r.voice (with_voice v g.s) g.handed g.d m n own shared sid tells.done;
  slides = slides_over g m n low high tells.slides;
}

-- the voice's own bytes have
pub own_tells : (g : Running) (v w : Voice) (m n : VoiceDesk) → n.shared ≡ m.shared → n.sid ≡ m.sid →
    n.slide_low ≡ m.slide_low → n.slide_high ≡ m.slide_high →
    Fields g.r.layout.holds w (tempo_of (g.r.voice + 1) g.s.common) n.own → SameSong n.own g.d.own → Tells g v m →
    Tells g w n
own_tells g v w m n shared sid low high fields song tells = record {
  done = own_done g.r.layout.holds g.r.voice (with_voice v g.s) (with_voice w g.s) g.handed g.d m n shared sid refl
      fields song tells.done;
  slides = slides_over g m n low high tells.slides;
}

-- the same voice by another name
pub tells_by : (g : Running) (v w : Voice) (m : VoiceDesk) → w ≡ v → Tells g v m → Tells g w m
tells_by g v w m e tells = rw e tells

-- the bytes of the frequency on a desk that tells a voice
pub word_of : (g : Running) (v : Voice) (m : VoiceDesk) → Tells g v m → IsWord (m.own FREQ_LOW) (m.own FREQ_HIGH) v.freq
word_of g v m tells =
    record { low_is = tells.done.fields.freq_low; high_is = tells.done.fields.freq_high }

-- ---- at the note

pub found_leads : (g : Running) (m : VoiceDesk) → freq (g.s.voice.note % 128) ≡ freq g.s.voice.note → AtFound g m →
    Leads g.r (rest_of FOUND slide_tree) (slide_ways g) m
found_leads g m same at = (
  λ kept.
      let number : m.own NOTE ≡ g.s.voice.note % 128 = at.tells.done.fields.note in record {
        tells = tells_over g g.s.voice m _ refl refl refl refl refl at.tells;
        arrives = at.arrives;
        number = number;
        is = at.is ∙ (rw (number, same) refl);
      },
  λ out. absurd (both_ways _ out at.kept),
)

-- ---- up

pub rise_leads : (g : Running) (m : VoiceDesk) → SlidePlaces g.r g.s.voice.param → AtRises g m →
    Leads g.r (rest_of RISES slide_tree) (down_ways g) m
rise_leads g m places at = (
  λ kept.
      low_read g.s.voice.param at.byte places at.low at.y
      (λ b e. (
        λ none.
            let below : m.own FREQ_LOW + b + one_if m.c < 256 = leb-false 256 _ (not-true _ none) in
            let w = risen (m.own FREQ_LOW) (m.own FREQ_HIGH) at.word at.byte b (one_if m.c) at.small e at.few carry
            below before in
            on _ refl refl refl refl (assumption (w.low_is, w.high_is, at.tells.done.fields))
            (assumption at.tells.done.song),
        λ over.
            let above : 256 ≤ m.own FREQ_LOW + b + one_if m.c = leb-true 256 _ (not-false _ over) in
            let w = risen_over (m.own FREQ_LOW) (m.own FREQ_HIGH) at.word at.byte b (one_if m.c) at.small e at.few carry
            above before in
            on _ refl refl refl refl (assumption (w.low_is, w.high_is, at.tells.done.fields))
            (assumption at.tells.done.song),
      )),
  λ out. absurd (both_ways _ out at.kept),
)
  where
    carry : one_if m.c ≡ 0
    carry = rw at.carry refl

    before : IsWord (m.own FREQ_LOW) (m.own FREQ_HIGH) at.word
    before = word_of g (set_at at.time at.word g.s.voice) m at.tells

    on : (n : VoiceDesk) → n.shared ≡ m.shared → n.sid ≡ m.sid → n.slide_low ≡ m.slide_low →
        n.slide_high ≡ m.slide_high →
        Fields g.r.layout.holds (set_at at.time (freq_plus at.word at.byte) g.s.voice)
        (tempo_of (g.r.voice + 1) g.s.common) n.own →
        SameSong n.own g.d.own → Effected g n
    on n shared sid low high fields song = record {
      tells = tells_by g _ (moved g) n at.is
          (own_tells g _ (set_at at.time (freq_plus at.word at.byte) g.s.voice) m n shared sid low high
          fields song at.tells);
      passes = at.passes;
    }

pub climb_leads : (g : Running) (m : VoiceDesk) → SlidePlaces g.r g.s.voice.param → g.s.voice.freq < 65536 →
    AtUp g m → Leads g.r (rest_of UP slide_tree) (rises_ways g) m
climb_leads g m places small at = (
  λ kept.
      high_read g.s.voice.param (at.speed / 256) places at.has.high at.y
      (λ b e.
      let w = climbed (m.own FREQ_LOW) (m.own FREQ_HIGH) g.s.voice.freq (at.speed / 256) b (one_if m.c) small e few
      carry
      before in
      record {
        time = at.time;
        word = freq_plus g.s.voice.freq (256 * (at.speed / 256));
        byte = at.speed % 256;
        tells =
            own_tells g _ _ m _ refl refl refl refl (assumption (w.low_is, w.high_is, at.tells.done.fields))
            (assumption at.tells.done.song) at.tells;
        y = at.y;
        carry = refl;
        small = plus_small g.s.voice.freq (256 * (at.speed / 256));
        few = omega arith;
        low = at.has.low;
        is = at.is ∙ ap (λ word. set_at at.time word g.s.voice)
            (sym (plus_twice g.s.voice.freq at.speed small at.has.small));
        passes = at.passes;
        kept = at.rises;
      }),
  λ out. absurd (both_ways _ out at.climbs),
)
  where
    carry : one_if m.c ≡ 0
    carry = rw at.carry refl

    few : at.speed / 256 < 256
    few = (let l = at.has.small in omega (arith, l))

    before : IsWord (m.own FREQ_LOW) (m.own FREQ_HIGH) g.s.voice.freq
    before = word_of g (set_at at.time g.s.voice.freq g.s.voice) m at.tells

-- ---- down

pub sink_leads : (g : Running) (m : VoiceDesk) → SlidePlaces g.r g.s.voice.param → AtFalls g m →
    Leads g.r (rest_of FALLS slide_tree) (found_ways g) m
sink_leads g m places at = (
  λ kept.
      low_read g.s.voice.param at.byte places at.low at.y
      (λ b e. (
        λ over.
            let above : 256 ≤ m.own FREQ_LOW + (255 - b) + one_if m.c = leb-true 256 _ over in
            let w = fallen (m.own FREQ_LOW) (m.own FREQ_HIGH) at.word at.byte b (one_if m.c) at.small e at.few carry
            above
            before in
            on _ refl refl refl refl (assumption (w.low_is, w.high_is, at.tells.done.fields))
            (assumption at.tells.done.song),
        λ none.
            let below : m.own FREQ_LOW + (255 - b) + one_if m.c < 256 = leb-false 256 _ none in
            let w = fallen_under (m.own FREQ_LOW) (m.own FREQ_HIGH) at.word at.byte b (one_if m.c) at.small e at.few
            carry
            below before in
            on _ refl refl refl refl (assumption (w.low_is, w.high_is, at.tells.done.fields))
            (assumption at.tells.done.song),
      )),
  λ out. absurd (both_ways _ out at.kept),
)
  where
    carry : one_if m.c ≡ 1
    carry = rw at.carry refl

    before : IsWord (m.own FREQ_LOW) (m.own FREQ_HIGH) at.word
    before = word_of g (set_at at.time at.word g.s.voice) m at.tells

    on : (n : VoiceDesk) → n.shared ≡ m.shared → n.sid ≡ m.sid → n.slide_low ≡ m.slide_low →
        n.slide_high ≡ m.slide_high →
        Fields g.r.layout.holds (set_at at.time (freq_minus at.word at.byte) g.s.voice)
        (tempo_of (g.r.voice + 1) g.s.common) n.own →
        SameSong n.own g.d.own → Effected g n
    on n shared sid low high fields song = record {
      tells = tells_by g _ (moved g) n at.is
          (own_tells g _ (set_at at.time (freq_minus at.word at.byte) g.s.voice) m n shared sid low
          high fields song at.tells);
      passes = at.passes;
    }

pub drop_leads : (g : Running) (m : VoiceDesk) → SlidePlaces g.r g.s.voice.param → g.s.voice.freq < 65536 →
    AtDown g m → Leads g.r (rest_of DOWN slide_tree) (falls_ways g) m
drop_leads g m places small at = (
  λ kept.
      high_read g.s.voice.param (at.speed / 256) places at.has.high at.y
      (λ b e.
      let w = dropped (m.own FREQ_LOW) (m.own FREQ_HIGH) g.s.voice.freq (at.speed / 256) b (one_if m.c) small e few
      carry
      before in
      record {
        time = at.time;
        word = freq_minus g.s.voice.freq (256 * (at.speed / 256));
        byte = at.speed % 256;
        tells =
            own_tells g _ _ m _ refl refl refl refl (assumption (w.low_is, w.high_is, at.tells.done.fields))
            (assumption at.tells.done.song) at.tells;
        y = at.y;
        carry = refl;
        small = minus_small g.s.voice.freq (256 * (at.speed / 256));
        few = omega arith;
        low = at.has.low;
        is = at.is
            ∙ ap (λ word. set_at at.time word g.s.voice) (sym (minus_twice g.s.voice.freq at.speed small at.has.small));
        passes = at.passes;
        kept = at.sinks;
      }),
  λ out. absurd (both_ways _ out at.drops),
)
  where
    carry : one_if m.c ≡ 1
    carry = rw at.carry refl

    few : at.speed / 256 < 256
    few = (let l = at.has.small in omega (arith, l))

    before : IsWord (m.own FREQ_LOW) (m.own FREQ_HIGH) g.s.voice.freq
    before = word_of g (set_at at.time g.s.voice.freq g.s.voice) m at.tells
