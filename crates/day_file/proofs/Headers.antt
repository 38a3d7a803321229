-- What a header that is not refused tells.
use Rattle.std.proofs.Common.{◌≡◌, ℕ, ◌+◌, ◌*◌, ◌≤◌, true, eqb, leb, List, length, get_or, None, arith}
use Rattle.std.specs.List.{All}
use Rattle.std.proofs.lemmas.Bool.{leb-true, le-leb, eqb-true, eq-eqb}
use Rattle.std.proofs.lemmas.Bool.Decides.{nat_tests}
use Rattle.settlement.proofs.Rulings.{passed, neither}
use Rattle.book.specs.declared.calls.Change.{Change}
use Rattle.day_file.specs.declared.day.Header.{Header}
use Rattle.day_file.specs.Valid.{FitKey, FitFigures, Fit, Valid}
use Rattle.day_file.specs.Refusals.{header_fault, opening_fault, write_fault, header_in, count_in}

-- The values of a header that a day has itself.
pub record Right (h : Header) : Type 0 where
  pub shortest : 23 ≤ h.hours
  pub longest : h.hours ≤ 25
  pub editions : h.edition ≤ 1
  pub regions : h.region ≤ 1

pub header_right : (h : Header) → header_fault h ≡ None → Right h
header_right h e = record { shortest = grind (arith, nat_tests); longest = grind (arith, nat_tests); editions = grind (arith, nat_tests); regions = grind (arith, nat_tests) }

pub right_header : (h : Header) → Right h → header_fault h ≡ None
right_header h r = grind (arith, nat_tests)

both : (calls : List Change) → All FitKey calls → All FitFigures calls → All Fit calls
both calls k f = λ i d h. (k i d h, f i d h)

pub writable : (h : Header) (calls : List Change) (room : ℕ) → write_fault h (length calls) room ≡ None → All FitKey calls → All FitFigures calls → Valid h calls
writable h calls room e k f =
    let p = neither (header_fault h) _ e in
    let q = passed (leb (length calls) 1000) _ _ p.1 in
    let r = header_right h p.0 in
    record { shortest = r.shortest; longest = r.longest; editions = r.editions; regions = r.regions; few = leb-true (length calls) 1000 q.0; fit = both calls k f }

-- A file's header and length, not refused.
pub record Opened (bytes : List ℕ) : Type 0 where
  pub right : Right (header_in bytes)
  pub nought : get_or bytes 3 0 ≡ 0
  pub few : count_in bytes ≤ 1000
  pub long : length bytes ≡ 6 + 52 * count_in bytes

pub opened : (bytes : List ℕ) → opening_fault bytes ≡ None → Opened bytes
opened bytes e =
    let p = passed (leb 6 (length bytes)) _ _ e in
    let q = neither (header_fault (header_in bytes)) _ p.1 in
    let z = passed (eqb (get_or bytes 3 0) 0) _ _ q.1 in
    let n = passed (leb (count_in bytes) 1000) _ _ z.1 in
    let l = passed (eqb (length bytes) (6 + 52 * count_in bytes)) _ _ n.1 in
    record { right = header_right (header_in bytes) q.0; nought = eqb-true _ _ z.0; few = leb-true _ _ n.0; long = eqb-true _ _ l.0 }

pub opens : (bytes : List ℕ) → Opened bytes → opening_fault bytes ≡ None
opens bytes o =
    let l : leb 6 (length bytes) ≡ true = le-leb 6 (length bytes) (omega (arith, o.long)) in
    let h = right_header (header_in bytes) o.right in
    let z = eq-eqb (get_or bytes 3 0) 0 o.nought in
    let n = le-leb (count_in bytes) 1000 o.few in
    let m = eq-eqb (length bytes) (6 + 52 * count_in bytes) o.long in
    rw (l, h, z, n, m)
