use Rattle.std.proofs.Common.{◌≡◌, ℕ, ◌+◌, refl, ap, length, ◌∙◌, arith}
use Rattle.kept_lines.specs.Asked.{asked_by}
use Rattle.image_parts.specs.CodeParts.{length_of}
use Rattle.image_parts.specs.Lengths.{slide_bytes}
use Rattle.song_costs.proofs.ByteKinds.{unlisted_within, kinds_add_up, costs_are}
use Rattle.song_costs.proofs.costs.costs_by_kind.Goals as goal

-- those of the slides
slides_are : (c : goal.After-frequency_bytes) →
    c.slide_bytes-slides.result ≡ slide_bytes (asked_by c.args.packed.now) (length c.args.packed.now.speed)
slides_are c =
    c.slide_bytes-slides.ensures
    ∙ ap (λ asked. slide_bytes asked (length c.as_slice-2.result.now)) c.asked_by.ensures
    ∙ ap (λ rows. slide_bytes (asked_by c.args.packed.now) (length rows)) c.as_slice-2.ensures.items

with_lists : (read code : ℕ) {slides slides' frequencies frequencies' : ℕ} → slides ≡ slides' →
    frequencies ≡ frequencies' → read + slides + frequencies + code ≡ read + slides' + frequencies' + code
with_lists read code e f = rw (e, f) refl

-- the addresses that are in no list are bytes of the orderlists
pub overflow_sub-result : goal.overflow_sub-result
overflow_sub-result c =
    let within = unlisted_within c.args.packed.now in
    let unlisted = c.unlisted_size.ensures.size in
    let size = c.size.ensures.size in
    let patterns = c.patterns_bytes-patterns.ensures.size in
    let instruments = ap length c.as_slice.ensures.items in
    let wave = c.rows_bytes-wave.ensures.size in
    let pulse = c.rows_bytes-pulse.ensures.size in
    let filter = c.rows_bytes-filter.ensures.size in
    let speed = c.rows_bytes-speed.ensures.size in
    omega (arith, within, unlisted, size, patterns, instruments, wave, pulse, filter, speed)

pub returns-clause-exact : goal.returns-clause-exact
returns-clause-exact c = λ song used options are is code_is.
    costs_are song used c.args.packed.now options are is (c.code_length.ensures ∙ ap length_of code_is)
    c.patterns_bytes-patterns.ensures.size (ap length c.as_slice.ensures.items) c.shared_size.ensures.size
    c.unread_size.ensures.size c.unlisted_size.ensures.size c.rows_bytes-wave.ensures.size
    c.rows_bytes-pulse.ensures.size c.rows_bytes-filter.ensures.size
    c.rows_bytes-speed.ensures.size (slides_are c) c.size.ensures.size c.frequency_bytes.ensures.bytes

pub returns-clause-length : goal.returns-clause-length
returns-clause-length c =
    kinds_add_up c.args.packed.now _ _ c.code_length.ensures c.patterns_bytes-patterns.ensures.size
    (ap length c.as_slice.ensures.items) c.shared_size.ensures.size c.unread_size.ensures.size
    c.unlisted_size.ensures.size c.rows_bytes-wave.ensures.size c.rows_bytes-pulse.ensures.size
    c.rows_bytes-filter.ensures.size c.rows_bytes-speed.ensures.size c.size.ensures.size
    ∙ with_lists _ _ (slides_are c) c.frequency_bytes.ensures.bytes
