-- Admitted numbers bound the clock cycles of calls of an entrance.
use Rattle.std.proofs.Common.{ℕ, ◌+◌, ◌≤◌, ◌++◌, Option, Some, None, List, take, drop}
use Rattle.std.proofs.Common.{subst, arith}
use Rattle.scopes.specs.Desk.{Desk, Layout}
use Rattle.scopes.specs.Trees.{Tree}
use Rattle.scope_lines.specs.Lines.{block_around}
use Rattle.scope_calls.specs.Entrances.{Entrance, first_place, voices_place}
use Rattle.scope_calls.specs.Meaning.{cleared, at_voice, called_from, voice_called}
use Rattle.scope_calls.specs.Listed.{layout_at, entrance_desk}
use Rattle.scope_calls.specs.Cycles.{voices_cycles}
use Rattle.scopes.specs.Meaning.{each_one, ran}
use Rattle.cycle_bound.specs.Rules.{nowhere, entry, behind_first, asked, Reaches}
use Rattle.cycle_bound.specs.EntranceRules.{voice_most, voice_asked, first_numbers, voice_numbers}
use Rattle.cycle_bound.specs.EntranceRules.{EntrancesKeepBounds, CallsKeepBounds}
use Rattle.cycle_bound.proofs.Bounds.{first_reaches, rest_reaches, reaches_both, asked_count, blocks_keep_bounds}
use Rattle.cycle_bound.specs.Bounds.{setting_of}

-- the voices: each takes at most the number at the first line of its block
voices_keep : (layout : Layout) (e : Entrance) (voice : Option Tree) (place : ℕ) (numbers : List ℕ) (desk : Desk) →
    Reaches (voice_asked (setting_of layout) voice numbers) numbers →
    voices_cycles layout e voice place desk ≤ voice_most voice numbers
voices_keep layout e None place numbers desk reaches = omega arith
voices_keep layout e (Some block) place numbers desk reaches =
    let around = block_around e.label e.pointer e.holds in
    let at = voices_place e + 12 in
    let second = (voice_called layout block (place + 4) 0 desk).desk in
    let third = (voice_called layout block (place + 9) 1 second).desk in
    let one =
    blocks_keep_bounds layout around at block numbers (called_from (place + 4) (at_voice 0 desk)) reaches in
    let two =
    blocks_keep_bounds layout around at block numbers (called_from (place + 9) (at_voice 1 second)) reaches in
    let three = blocks_keep_bounds layout around at block numbers (at_voice 2 third) reaches in
    omega (arith, one, two, three)

pub entrances_keep_bounds : EntrancesKeepBounds
entrances_keep_bounds e machine number numbers admits =
    let layout = layout_at e in
    let own = e.entrance in
    let setting = setting_of layout in
    let around = block_around own.label own.pointer own.holds in
    let xs = first_numbers own.first numbers in
    let ys = voice_numbers own.first numbers in
    let one = asked setting nowhere 0 own.first xs in
    let two = voice_asked setting own.voice ys in
    let desk = cleared (entrance_desk e machine number) in
    let place = layout.address own.label + voices_place own in
    let both =
    subst (λ n. Reaches one (take n (behind_first numbers)) × Reaches two (drop n (behind_first numbers)))
    (asked_count setting nowhere 0 own.first xs)
    (reaches_both one two (behind_first numbers)
    (rest_reaches (entry xs 0 + voice_most own.voice ys) (one ++ two) numbers admits)) in
    let all = first_reaches (entry xs 0 + voice_most own.voice ys) (one ++ two) numbers 0 admits in
    let block = blocks_keep_bounds layout around first_place own.first xs desk both.0 in
    let voices = voices_keep layout own own.voice place ys (ran each_one layout own.first desk).desk both.1 in
    omega (arith, all, block, voices)

pub calls_keep_bounds : CallsKeepBounds
calls_keep_bounds e machine number r numbers admits =
    let takes = r.cycles_are in
    let all = entrances_keep_bounds e machine number numbers admits in
    omega (arith, takes, all)
