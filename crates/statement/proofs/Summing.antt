-- The line of a day, summed row after row.
use Rattle.std.proofs.Common.{◌≡◌, ℕ, ◌+◌, ◌*◌, ◌^◌, ◌<◌, ◌≤◌, true, ◌&&◌, leb, List, [], ◌∷◌, ◌++◌, length, get_or, take, ℤ, ◌+ℤ◌, nat_abs, sum_by, sym, ap, ◌∙◌, subst, mul-le-mul_right, arith, lit<, lit≤, w64, to_z, of_z}
use Rattle.std.specs.List.{All}
use Rattle.std.proofs.lemmas.List.{take_more, get_or-take, length-take}
use Rattle.std.proofs.lemmas.List.Elements.{All-weaker, All-from_get_or}
use Rattle.std.proofs.lemmas.List.Sums.{sum_by-le, sum_by_push}
use Rattle.std.proofs.lemmas.Bool.{and_parts, leb-true}
use Rattle.arithmetic.specs.Sums.{sum_ℤ}
use Rattle.arithmetic.proofs.Machine.{Holds, holds, whole, back, plus}
use Rattle.arithmetic.proofs.Sums.{sum_ℤ-push, sum_ℤ-le}
use Rattle.settlement.specs.declared.figures.Amounts.{Amounts}
use Rattle.settlement.specs.declared.figures.HourLine.{HourLine}
use Rattle.settlement.specs.Bounds.{is_small, is_small_amounts, is_small_line, is_short_line}
use Rattle.book.specs.declared.figures.DayLine.{DayLine}
use Rattle.book.specs.declared.figures.Row.{Row}
use Rattle.settlement.specs.declared.figures.State.{State}
use Rattle.settlement.specs.declared.figures.State.TheVariants.{Unsettled, Settled}
use Rattle.book.specs.Lines.{settled_one, amounts_of, day_of, no_row}
use Rattle.book.proofs.RowsRead.{zero_row, row_read}
use Rattle.statement.specs.Days.{is_day_part, AmountsRoom, DayRoom, amounts_plus, day_plus}

-- The parts of a small line.
pub record SmallAmounts (a : Amounts) : Type 0 where
  pub energy : nat_abs a.energy ≤ 2 ^ 47
  pub loss : nat_abs a.loss ≤ 2 ^ 47
  pub congestion : nat_abs a.congestion ≤ 2 ^ 47
  pub total : nat_abs a.total ≤ 2 ^ 47

pub small_amounts : (a : Amounts) → is_small_amounts a ≡ true → SmallAmounts a
small_amounts a e =
    let p = and_parts (is_small a.energy && is_small a.loss && is_small a.congestion) (is_small a.total) e in
    let q = and_parts (is_small a.energy && is_small a.loss) (is_small a.congestion) p.0 in
    let r = and_parts (is_small a.energy) (is_small a.loss) q.0 in
    record { energy = leb-true _ _ r.0; loss = leb-true _ _ r.1; congestion = leb-true _ _ q.1; total = leb-true _ _ p.1 }

pub record SmallLine (l : HourLine) : Type 0 where
  pub intervals : l.intervals ≤ 24
  pub seconds : l.seconds ≤ 3600
  pub ahead : is_small_amounts l.ahead ≡ true
  pub balance : nat_abs l.balance ≤ 2 ^ 47
  pub balancing : is_small_amounts l.balancing ≡ true
  pub spin : nat_abs l.spin ≤ 2 ^ 47
  pub total : nat_abs l.total ≤ 2 ^ 47

pub small_line : (l : HourLine) → is_day_part l ≡ true → SmallLine l
small_line l e =
    let both = and_parts (is_short_line l) (is_small_line l) e in
    let u = and_parts (leb l.intervals 24) (leb l.seconds 3600) both.0 in
    let p = and_parts _ (is_small l.total) both.1 in
    let q = and_parts _ (is_small l.spin) p.0 in
    let r = and_parts _ (is_small_amounts l.balancing) q.0 in
    let s = and_parts (is_small_amounts l.ahead) (is_small l.balance) r.0 in
    record {
      intervals = leb-true _ _ u.0;
      seconds = leb-true _ _ u.1;
      ahead = s.0;
      balance = leb-true _ _ s.1;
      balancing = r.1;
      spin = leb-true _ _ q.1;
      total = leb-true _ _ p.1;
    }

-- A figure as the code holds it: one of a sum, and one of a line.
pub summed : (z : ℤ) → nat_abs z ≤ 24 * 2 ^ 47 → Holds (to_z w64 (of_z w64 z)) z (24 * 2 ^ 47)
summed z h = back w64 (whole z (24 * 2 ^ 47) h) (lit< tt)

pub figure : (z : ℤ) → nat_abs z ≤ 2 ^ 47 → Holds (to_z w64 (of_z w64 z)) z (2 ^ 47)
figure z h = back w64 (whole z (2 ^ 47) h) (lit< tt)

pub plus_is : (r a b : ℤ) → nat_abs a ≤ 24 * 2 ^ 47 → nat_abs b ≤ 2 ^ 47 → r ≡ to_z w64 (of_z w64 a) +ℤ to_z w64 (of_z w64 b) → to_z w64 (of_z w64 r) ≡ a +ℤ b
plus_is r a b h k e = let p = plus (summed a h) (figure b k) in (back w64 (holds (e ∙ p.is) p.size) (lit< tt)).is

-- The line of a row is small, and so is the line of as many rows as a day can have before its last.
abbrev pub Tame : Row → Type 0
Tame r = is_day_part r.line ≡ true

module _ (rows : List Row) (few : length rows ≤ 24) where
  sum_room : (f : Row → ℤ) → All (λ r. nat_abs (f r) ≤ 2 ^ 47) rows → nat_abs (sum_ℤ f rows) ≤ 24 * 2 ^ 47
  sum_room f all = omega (arith, sum_ℤ-le f (2 ^ 47) rows all, mul-le-mul_right (2 ^ 47) few)

  count_room : (f : Row → ℕ) (m : ℕ) → All (λ r. f r ≤ m) rows → sum_by f rows ≤ 24 * m
  count_room f m all = omega (arith, sum_by-le f m rows all, mul-le-mul_right m few)

  amounts_room : (f : Row → Amounts) → All (λ r. is_small_amounts (f r) ≡ true) rows → AmountsRoom (amounts_of f rows) 24
  amounts_room f all =
      record {
        energy = sum_room (λ r. (f r).energy) (All-weaker _ _ (λ r e. (small_amounts (f r) e).energy) rows all);
        loss = sum_room (λ r. (f r).loss) (All-weaker _ _ (λ r e. (small_amounts (f r) e).loss) rows all);
        congestion = sum_room (λ r. (f r).congestion) (All-weaker _ _ (λ r e. (small_amounts (f r) e).congestion) rows all);
        total = sum_room (λ r. (f r).total) (All-weaker _ _ (λ r e. (small_amounts (f r) e).total) rows all);
      }

  day_room : All Tame rows → DayRoom (day_of rows) 24
  day_room all =
      record {
        settled = count_room (λ r. settled_one r.line.state) 1 (All-weaker Tame _ (λ r t. settled_most r.line.state) rows all);
        intervals = count_room (λ r. r.line.intervals) 24 (All-weaker Tame _ (λ r t. (small_line r.line t).intervals) rows all);
        seconds = count_room (λ r. r.line.seconds) 3600 (All-weaker Tame _ (λ r t. (small_line r.line t).seconds) rows all);
        ahead = amounts_room (λ r. r.line.ahead) (All-weaker Tame _ (λ r t. (small_line r.line t).ahead) rows all);
        balance = sum_room (λ r. r.line.balance) (All-weaker Tame _ (λ r t. (small_line r.line t).balance) rows all);
        balancing = amounts_room (λ r. r.line.balancing) (All-weaker Tame _ (λ r t. (small_line r.line t).balancing) rows all);
        spin = sum_room (λ r. r.line.spin) (All-weaker Tame _ (λ r t. (small_line r.line t).spin) rows all);
        total = sum_room (λ r. r.line.total) (All-weaker Tame _ (λ r t. (small_line r.line t).total) rows all);
      }
    where
      settled_most : (s : State) → settled_one s ≤ 1
      settled_most Unsettled = lit≤ tt
      settled_most Settled = lit≤ tt

pub rows_room : (rows : List Row) (k : ℕ) (d : DayLine) → k < length rows → k ≤ 24 → ((h : ℕ) → Tame (get_or rows h no_row)) → d ≡ day_of (take k rows) → DayRoom d 24
rows_room rows k d l few all e =
    let long = length-take k rows in
    subst (λ (d : DayLine). DayRoom d 24) (sym e)
    (day_room (take k rows) (omega arith)
    (All-from_get_or Tame (take k rows) no_row (λ i inside. subst Tame (sym (get_or-take k rows i no_row (omega arith))) (all i))))

-- One row more.
amounts_push : (f : Row → Amounts) (rows : List Row) (r : Row) → amounts_of f (rows ++ r ∷ []) ≡ amounts_plus (amounts_of f rows) (f r)
amounts_push f rows r =
    λ i. record {
      energy = sum_ℤ-push (λ r. (f r).energy) rows r i;
      loss = sum_ℤ-push (λ r. (f r).loss) rows r i;
      congestion = sum_ℤ-push (λ r. (f r).congestion) rows r i;
      total = sum_ℤ-push (λ r. (f r).total) rows r i;
    }

day_push : (rows : List Row) (r : Row) → day_of (rows ++ r ∷ []) ≡ day_plus (day_of rows) r.line
day_push rows r =
    λ i. record {
      settled = sum_by_push (λ (r : Row). settled_one r.line.state) rows r i;
      intervals = sum_by_push (λ (r : Row). r.line.intervals) rows r i;
      seconds = sum_by_push (λ (r : Row). r.line.seconds) rows r i;
      ahead = amounts_push (λ r. r.line.ahead) rows r i;
      balance = sum_ℤ-push (λ r. r.line.balance) rows r i;
      balancing = amounts_push (λ r. r.line.balancing) rows r i;
      spin = sum_ℤ-push (λ r. r.line.spin) rows r i;
      total = sum_ℤ-push (λ r. r.line.total) rows r i;
    }

pub day_more : (rows : List Row) (k : ℕ) (d : DayLine) → k < length rows → d ≡ day_of (take k rows) → day_plus d (get_or rows k zero_row).line ≡ day_of (take (k + 1) rows)
day_more rows k d l e =
    ap (λ (r : Row). day_plus d r.line) (row_read rows k l)
    ∙ ap (λ (d : DayLine). day_plus d (get_or rows k no_row).line) e ∙ sym (ap day_of (take_more rows k no_row l) ∙ day_push (take k rows) (get_or rows k no_row))
