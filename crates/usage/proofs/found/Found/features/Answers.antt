use Rattle.song_model.specs.declared.features.Feature.TheVariants.{Transpose}
use Rattle.usage.proofs.SetBits.{bits_more, place_is_bit}
use Rattle.usage.proofs.found.Found.features.Goals as goal

pub loop-feature-preserved : goal.loop-feature-preserved
loop-feature-preserved c =
    bits_more c.args.song.now c.loop-feature.feature-index c.loop-feature.bits c.with_bit-bits.result _
    c.loop-feature-test.true
    (place_is_bit c.loop-feature.feature-index Transpose c.loop-feature-test.true)
    c.with_bit-bits.ensures.small c.loop-feature.invariant c.with_bit-bits.ensures.added
