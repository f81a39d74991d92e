-- A voice that has its orderlist's address already is left as it is by the lines that take it.
use Rattle.std.proofs.Common.{◌≡◌, ℕ, ◌+◌, ◌%◌, Bool, true, false, nat_eq, refl, sym, ap, ◌∙◌}
use Rattle.std.proofs.lemmas.Bool.{eqb-true}
use Rattle.code_runs.specs.Runs.{put}
use Rattle.player_memory.specs.declared.labels.TheConstants.{ORDERS_LOW, ORDERS_HIGH, ORDER_LOW, ORDER_HIGH}
use Rattle.idle_parts.specs.KeptBytes.{OrdersIdle}

-- a byte that is there already is put
put_again : (at : ℕ → ℕ) (place byte : ℕ) → at place ≡ byte → (other : ℕ) → put at place byte other ≡ at other
put_again at place byte is other = by_case (nat_eq other place) refl
  where
    by_case : (z : Bool) → nat_eq other place ≡ z → put at place byte other ≡ at other
    by_case true same = rw same (sym is ∙ ap at (sym (eqb-true other place same)))
    by_case false apart = rw apart refl

pub orders_idle : OrdersIdle
orders_idle layout rows low high desk lows highs may low_is high_is =
    let from_low : layout.may_read ((layout.address ORDERS_LOW + desk.cpu.y) % 65536) ≡ true = lows.reads in
    let from_high : layout.may_read ((layout.address ORDERS_HIGH + desk.cpu.y) % 65536) ≡ true = highs.reads in
    let to_low : layout.may_write ((layout.address ORDER_LOW + desk.cpu.x) % 65536) ≡ true = may.0.1 in
    let to_high : layout.may_write ((layout.address ORDER_HIGH + desk.cpu.x) % 65536) ≡ true = may.1.0.1 in
    record {
      ends = rw (from_low, to_low, from_high, to_high) refl;
      stays = λ place. rw (from_low, to_low, from_high, to_high)
          (put_again first own_high (first its_high)
          (unchanged own_high ∙ high_is ∙ sym highs.is ∙ sym (unchanged its_high)) place
          ∙ unchanged place);
      x = rw (from_low, to_low, from_high, to_high) refl;
      decimal = rw (from_low, to_low, from_high, to_high) refl;
      kept_are = rw (from_low, to_low, from_high, to_high) (refl, tt);
    }
  where
    own_low : ℕ
    own_low = (layout.address ORDER_LOW + desk.cpu.x) % 65536

    own_high : ℕ
    own_high = (layout.address ORDER_HIGH + desk.cpu.x) % 65536

    its_low : ℕ
    its_low = (layout.address ORDERS_LOW + desk.cpu.y) % 65536

    its_high : ℕ
    its_high = (layout.address ORDERS_HIGH + desk.cpu.y) % 65536

    -- behind the low byte
    first : ℕ → ℕ
    first = put desk.at own_low (desk.at its_low)

    unchanged : (place : ℕ) → first place ≡ desk.at place
    unchanged place = put_again desk.at own_low (desk.at its_low) (low_is ∙ sym lows.is) place
