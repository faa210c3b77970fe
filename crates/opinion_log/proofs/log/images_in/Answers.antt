use Rattle.std.proofs.Common.{ℕ, ◌<◌, ◌%◌, ◌≡◌, map, length, get_or, sym, ap, ◌∙◌, rules, arith}
use borrow.Author.Tests.{tests}
use lib.ListN.{get_or-map, length-map}
use lib.Seq.{ext_get_or}
use Rattle.numbers.specs.Numbers.{port_count}
use Rattle.opinion_log.proofs.log.images_in.Goals as goal

pub returns : goal.returns
returns c =
    let xs = c.address_in.result in
    let ys = c.map.result in
    let f : ℕ → ℕ = λ x. x % port_count in
    let wide : length xs ≡ port_count = search rules in
    ext_get_or 0 ys (map f xs) (c.map.ensures.items.long ∙ sym (length-map xs f ∙ wide))
    (λ i l.
    let m : i < port_count = omega (arith, c.map.ensures.items.long, l) in
    let (p, q, k) = c.map.ensures.items.at i 0 0 m in
    let here : get_or ys i 0 ≡ f (get_or xs i 0) = search (rules, tests) in
    here ∙ sym (get_or-map f xs i 0))
    ∙ ap (map f) c.address_in.ensures
