-- A row of no number and of one by their laws; a longer row by the sum of its halves.
use Rattle.std.proofs.Common.{arith, rules, length, ◌≡◌, ◌-◌, ◌/◌, take, drop, length-drop, sym, ◌∙◌}
use Rattle.std.proofs.lemmas.List.{length-take-le}
use Rattle.numbers.specs.SumLaws.{sum_parts, sum_none, sum_one}
use Rattle.numbers.proofs.+sum.Goals as goal

pub returns-then-count-eq0 : goal.returns-then-count-eq0
returns-then-count-eq0 t c = (sym (sum_none c.args.row.now (search rules)), omega arith)

pub returns-then-count-eq1 : goal.returns-then-count-eq1
returns-then-count-eq1 t c = (c.wide.ensures ∙ sym (sum_one c.args.row.now (search rules)), omega (arith, c.wide.ensures, c.type_inv.row 0))

pub returns : goal.returns
returns t c =
    let l = c.args.row.now in
    let e = sum_parts (length l / 2) l in
    let first : length (take (length l / 2) l) ≡ length l / 2 = length-take-le (length l / 2) l (omega arith) in
    let second : length (take (length l - length l / 2) (drop (length l / 2) l)) ≡ length l - length l / 2 =
    length-take-le (length l - length l / 2) (drop (length l / 2) l) (omega (arith, length-drop (length l / 2) l)) in
    (omega (arith, c.sum-first.ensures, c.sum-second.ensures), omega (arith, c.sum-first.ensures, c.sum-second.ensures))
