-- Subtunes are filled, orderlist by orderlist.
use Rattle.std.proofs.Common.{◌≡◌, ℕ, ◌+◌, ◌<◌, ◌≤◌, eqb, List, [], ◌∷◌, ◌++◌, length}
use Rattle.std.proofs.Common.{replicate, insert, Ok, refl, sym, ap, ◌∙◌, subst, lit≤, arith}
use Rattle.std.proofs.lemmas.Bool.{eqb-true}
use Rattle.std.proofs.lemmas.List.{append_assoc, append-nil}
use Rattle.base.specs.Limits.{KeepsLimit}
use Rattle.song_model.specs.declared.orders.Order.{Order}
use Rattle.song_model.specs.declared.orders.Subtune.{Subtune}
use Rattle.song_model.specs.declared.songs.Song.{Song}
use Rattle.song_model.specs.LookUp.{void_order, void_subtune, order_of}
use Rattle.song_model.specs.OrderLimits.{IsEntry, AreEntries}
use Rattle.song_model.specs.Limits.{IsOrder, IsSubtune}
use Rattle.edit_ops.specs.declared.edits.Edit.TheVariants.{InsertOrder, SetRestart}
use Rattle.edit_ops.specs.Orders.{with_channel}
use Rattle.song_script.specs.Statements.{each_from}
use Rattle.song_script.specs.Parts.{entry_said, restart_said, order_said, subtune_said, channel_words}
use Rattle.song_script.proofs.AfterLaws.{Makes, both_make, comment_makes, one_makes, unless_makes, all_make}
use Rattle.song_script.proofs.ListLaws.{insert_last, item_holds, front_short}
use Rattle.song_script.proofs.KindLaws.{among_subtunes, entry_inserted, restart_set}

-- ---- one of the three channels

pub record IsChannel (channel : ℕ) : Type 0 where
  pub least : 1 ≤ channel
  pub most : channel ≤ 3
  pub order_is : (y : Subtune) (order : Order) → order_of channel (with_channel y channel order) ≡ order
  pub again : (y : Subtune) (order other : Order) →
      with_channel (with_channel y channel order) channel other ≡ with_channel y channel other

one_is : IsChannel 1
one_is = record { least = lit≤ tt; most = lit≤ tt; order_is = λ y order. refl; again = λ y order other. refl }

two_is : IsChannel 2
two_is = record { least = lit≤ tt; most = lit≤ tt; order_is = λ y order. refl; again = λ y order other. refl }

three_is : IsChannel 3
three_is = record { least = lit≤ tt; most = lit≤ tt; order_is = λ y order. refl; again = λ y order other. refl }

-- ---- an orderlist

abbrev at_start : List ℕ → Order
at_start entries = record { entries = entries; restart = 0 }

-- the song with this orderlist on the channel of a subtune between others
abbrev on_channel : Song → List Subtune → List Subtune → Subtune → ℕ → Order → Song
on_channel song front rest y channel order = among_subtunes song front rest (with_channel y channel order)

entry_makes : (song : Song) (front rest : List Subtune) (y : Subtune) (n channel : ℕ) → n ≡ 1 + length front →
    IsChannel channel → (before : List ℕ) (entry place : ℕ) → place ≡ length before → place < 254 → IsEntry entry →
    Makes (entry_said n channel place entry) (on_channel song front rest y channel (at_start before))
    (on_channel song front rest y channel (at_start (before ++ entry ∷ [])))
entry_makes song front rest y n channel is c before entry place here few small =
    let z : Subtune = with_channel y channel (at_start before) in
    let order : order_of channel z ≡ at_start before = c.order_is y (at_start before) in
    let long : place ≡ length (order_of channel z).entries =
    here ∙ ap (λ (o : Order). length o.entries) (sym order) in
    let last : insert before place entry ≡ before ++ entry ∷ [] = insert_last before place entry here in
    one_makes (InsertOrder n channel place entry) (on_channel song front rest y channel (at_start before))
    (on_channel song front rest y channel (at_start (before ++ entry ∷ [])))
    (entry_inserted song front rest z n channel place entry is c.least c.most long few small
    ∙ ap (λ (o : Order). Ok (among_subtunes song front rest
    (with_channel z channel (record o { entries = insert o.entries place entry })))) order
    ∙ ap (λ (es : List ℕ). Ok (among_subtunes song front rest (with_channel z channel (at_start es)))) last
    ∙ ap (λ (s : Subtune). Ok (among_subtunes song front rest s))
    (c.again y (at_start before) (at_start (before ++ entry ∷ []))))

entries_make : (song : Song) (front rest : List Subtune) (y : Subtune) (n channel : ℕ) → n ≡ 1 + length front →
    IsChannel channel → (entries : List ℕ) → AreEntries entries →
    Makes (each_from 0 (entry_said n channel) entries) (on_channel song front rest y channel void_order)
    (on_channel song front rest y channel (at_start entries))
entries_make song front rest y n channel is c entries are =
    all_make entries (λ before after. on_channel song front rest y channel (at_start before)) (entry_said n channel) 0
    (λ before entry after place parts at.
    entry_makes song front rest y n channel is c before entry place (omega (arith, at))
    (omega (arith, at, front_short entries before after entry parts, are.count))
    (item_holds IsEntry entries before after entry parts are.each))

restart_makes : (song : Song) (front rest : List Subtune) (y : Subtune) (n channel : ℕ) → n ≡ 1 + length front →
    IsChannel channel → (order : Order) →
    Makes (restart_said n channel order.restart) (on_channel song front rest y channel (at_start order.entries))
    (on_channel song front rest y channel order)
restart_makes song front rest y n channel is c order =
    let start : Order = at_start order.entries in
    let z : Subtune = with_channel y channel start in
    unless_makes (eqb order.restart 0) (SetRestart n channel order.restart)
    (on_channel song front rest y channel (at_start order.entries)) (on_channel song front rest y channel order)
    (λ none. ap (λ (r : ℕ). on_channel song front rest y channel (record { entries = order.entries; restart = r }))
    (sym (eqb-true order.restart 0 none)))
    (λ some. restart_set song front rest z n channel order.restart is c.least c.most
    ∙ ap (λ (o : Order). Ok (among_subtunes song front rest
    (with_channel z channel (record o { restart = order.restart })))) (c.order_is y start)
    ∙ ap (λ (s : Subtune). Ok (among_subtunes song front rest s)) (c.again y start order))

order_makes : (song : Song) (front rest : List Subtune) (y : Subtune) (n channel : ℕ) → n ≡ 1 + length front →
    IsChannel channel → (order : Order) → IsOrder order →
    Makes (order_said n channel order) (on_channel song front rest y channel void_order)
    (on_channel song front rest y channel order)
order_makes song front rest y n channel is c order good =
    comment_makes (channel_words n channel)
    (both_make (entries_make song front rest y n channel is c order.entries good.entries)
    (restart_makes song front rest y n channel is c order))

-- ---- subtunes

subtune_makes : (song : Song) (front rest : List Subtune) (subtune : Subtune) (n : ℕ) → n ≡ 1 + length front →
    IsSubtune subtune →
    Makes (subtune_said n subtune) (among_subtunes song front rest void_subtune)
    (among_subtunes song front rest subtune)
subtune_makes song front rest subtune n is good =
    let first : Subtune = record void_subtune { one = subtune.one } in
    let second : Subtune = record first { two = subtune.two } in
    both_make
    (both_make (order_makes song front rest void_subtune n 1 is one_is subtune.one good.one)
    (order_makes song front rest first n 2 is two_is subtune.two good.two))
    (order_makes song front rest second n 3 is three_is subtune.three good.three)

pub subtunes_fill : (song : Song) (subtunes : List Subtune) → KeepsLimit 32 IsSubtune subtunes →
    Makes (each_from 1 subtune_said subtunes) (record song { subtunes = replicate (length subtunes) void_subtune })
    (record song { subtunes = subtunes })
subtunes_fill song subtunes keeps =
    subst (λ (all : List Subtune). Makes (each_from 1 subtune_said subtunes)
    (record song { subtunes = replicate (length subtunes) void_subtune }) (record song { subtunes = all }))
    (append-nil subtunes)
    (all_make subtunes (λ front back. record song { subtunes = front ++ replicate (length back) void_subtune })
    subtune_said 1
    (λ front subtune back n parts at.
    subst (λ (all : List Subtune). Makes (subtune_said n subtune)
    (record song { subtunes = front ++ replicate (length (subtune ∷ back)) void_subtune })
    (record song { subtunes = all }))
    (sym (append_assoc front (subtune ∷ []) (replicate (length back) void_subtune)))
    (subtune_makes song front (replicate (length back) void_subtune) subtune n at
    (item_holds IsSubtune subtunes front back subtune parts keeps.each))))
