use Rattle.std.proofs.Common.{◌≡◌, ℕ, false, true, not, eqb, is_some, sum_by, count_by, sym, refl, ap, ◌∙◌, arith}
use Rattle.std.specs.List.{range_with_len}
use Rattle.std.proofs.lemmas.Bool.Decides.{nat_tests}
use Rattle.record_store.specs.Meaning.{hour_records}
use Rattle.book.specs.Gate.{count}
use Rattle.book.proofs.Spending.{counted_more}
use Rattle.statement.proofs.Counts.{hour_occupied, hour_counted}
use Rattle.statement.proofs.statement.opening.is_occupied.Goals as goal

pub returns-then-any_stands : goal.returns-then-any_stands
returns-then-any_stands g c =
    let standing = (g.S.Store.means c.args.store.now).standing in
    let h = c.loop-hour.hour in
    let some : true ≡ not (eqb (count_by is_some (hour_records (standing h))) 0) = sym c.if-any_stands.true ∙ c.any_stands.ensures ∙ hour_occupied (hour_records (standing h)) in
    let among = hour_counted standing h (omega arith) in
    grind (arith, nat_tests)

pub loop-hour-preserved : goal.loop-hour-preserved
loop-hour-preserved g c =
    let standing = (g.S.Store.means c.args.store.now).standing in
    let h = c.loop-hour.hour in
    let none : false ≡ not (eqb (count_by is_some (hour_records (standing h))) 0) = sym c.if-any_stands.false ∙ c.any_stands.ensures ∙ hour_occupied (hour_records (standing h)) in
    let zero : count_by is_some (hour_records (standing h)) ≡ 0 = grind (arith, nat_tests) in
    omega (arith, counted_more (λ (h : ℕ). count_by is_some (hour_records (standing h))) h, c.loop-hour.invariant, zero)

pub returns : goal.returns
unfolding count
returns g c =
    let f = λ (h : ℕ). count_by is_some (hour_records ((g.S.Store.means c.args.store.now).standing h)) in
    let all : c.loop-hour.hour ≡ 25 = omega arith in
    let zero : sum_by f (range_with_len 0 25) ≡ 0 = ap (λ n. sum_by f (range_with_len 0 n)) (sym all) ∙ c.loop-hour.invariant in
    rw zero refl
