-- What figures that no limit refuses are known to lie between.
use Rattle.std.proofs.Common.{◌≡◌, ◌≤◌, true, ◌&&◌, leb, ℤ, pos, nat_abs, ◌≤ℤ◌, None, arith}
use lib.Signed.{le_z}
use borrow.Author.Differences.{ints}
use Rattle.std.proofs.lemmas.Bool.{and_parts, leb-true}
use Rattle.settlement.specs.declared.figures.Interval.{Interval}
use Rattle.settlement.specs.declared.figures.Limits.{Limits}
use Rattle.settlement.specs.declared.figures.Prices.{Prices}
use Rattle.settlement.specs.declared.figures.Schedule.{Schedule}
use Rattle.settlement.proofs.Rulings.{passed}
use Rattle.settlement.specs.Limits.{fits_power, fits_basepoint, fits_price, fits_prices, fits_limits, fits_length, fits_flags, fits_powers, fits_real_time_prices, fits_sold, interval_refusal, schedule_refusal, reading_refusal}

pub record Power (x : ℤ) : Type 0 where
  pub low : pos 0 ≤ℤ x
  pub size : nat_abs x ≤ 2000000

power : (x : ℤ) → fits_power x ≡ true → Power x
power x e =
    let p = and_parts (le_z (pos 0) x) (le_z x (pos 2000000)) e in
    record { low = omega (arith, ints); size = omega (arith, ints) }

basepoint : (x : ℤ) → fits_basepoint x ≡ true → nat_abs x ≤ 2000000
basepoint x e = let p = and_parts _ (le_z x (pos 2000000)) e in omega (arith, ints)

price : (x : ℤ) → fits_price x ≡ true → nat_abs x ≤ 1000000
price x e = let p = and_parts _ (le_z x (pos 1000000)) e in omega (arith, ints)

pub record Priced (p : Prices) : Type 0 where
  pub energy : nat_abs p.energy ≤ 1000000
  pub loss : nat_abs p.loss ≤ 1000000
  pub congestion : nat_abs p.congestion ≤ 1000000

priced : (p : Prices) → fits_prices p ≡ true → Priced p
priced p e =
    let a = and_parts (fits_price p.energy && fits_price p.loss) (fits_price p.congestion) e in
    let b = and_parts (fits_price p.energy) (fits_price p.loss) a.0 in
    record { energy = price p.energy b.0; loss = price p.loss b.1; congestion = price p.congestion a.1 }

pub record Limiting (l : Limits) : Type 0 where
  pub rtd : nat_abs l.rtd ≤ 2000000
  pub agc : nat_abs l.agc ≤ 2000000
  pub energy : nat_abs l.energy ≤ 2000000

limiting : (l : Limits) → fits_limits l ≡ true → Limiting l
limiting l e =
    let a = and_parts (fits_basepoint l.rtd && fits_basepoint l.agc) (fits_basepoint l.energy) e in
    let b = and_parts (fits_basepoint l.rtd) (fits_basepoint l.agc) a.0 in
    record { rtd = basepoint l.rtd b.0; agc = basepoint l.agc b.1; energy = basepoint l.energy a.1 }

pub record Sound (i : Interval) : Type 0 where
  pub least : 6 ≤ i.seconds
  pub most : i.seconds ≤ 3600
  pub average : Power i.average
  pub limits : Limiting i.limits
  pub transactions : Power i.transactions
  pub spin : Power i.spin
  pub prices : Priced i.prices
  pub east : nat_abs i.reserve.east ≤ 1000000
  pub west : nat_abs i.reserve.west ≤ 1000000

pub sound : (i : Interval) → interval_refusal i ≡ None → Sound i
sound i e =
    let lasts = passed (fits_length i.seconds) _ _ e in
    let flagged = passed (fits_flags i.flags) _ _ lasts.1 in
    let powered = passed (fits_powers i) _ _ flagged.1 in
    let paid = passed (fits_real_time_prices i) _ _ powered.1 in
    let s = and_parts (leb 6 i.seconds) (leb i.seconds 3600) lasts.0 in
    let a = and_parts (fits_power i.average && fits_limits i.limits && fits_power i.transactions) (fits_power i.spin) powered.0 in
    let b = and_parts (fits_power i.average && fits_limits i.limits) (fits_power i.transactions) a.0 in
    let c = and_parts (fits_power i.average) (fits_limits i.limits) b.0 in
    let p = and_parts (fits_prices i.prices && fits_price i.reserve.east) (fits_price i.reserve.west) paid.0 in
    let q = and_parts (fits_prices i.prices) (fits_price i.reserve.east) p.0 in
    record {
      least = leb-true 6 i.seconds s.0;
      most = leb-true i.seconds 3600 s.1;
      average = power i.average c.0;
      limits = limiting i.limits c.1;
      transactions = power i.transactions b.1;
      spin = power i.spin a.1;
      prices = priced i.prices q.0;
      east = price i.reserve.east q.1;
      west = price i.reserve.west p.1;
    }

pub record Sold (g : Schedule) : Type 0 where
  pub generation : Power g.generation
  pub transactions : Power g.transactions
  pub spin : Power g.spin
  pub prices : Priced g.prices

pub sold : (g : Schedule) → schedule_refusal g ≡ None → Sold g
sold g e =
    let powered = passed (fits_sold g) _ _ e in
    let paid = passed (fits_prices g.prices) _ _ powered.1 in
    let a = and_parts (fits_power g.generation && fits_power g.transactions) (fits_power g.spin) powered.0 in
    let b = and_parts (fits_power g.generation) (fits_power g.transactions) a.0 in
    record { generation = power g.generation b.0; transactions = power g.transactions b.1; spin = power g.spin a.1; prices = priced g.prices paid.0 }

pub metered : (m : ℤ) → reading_refusal m ≡ None → Power m
metered m e = power m (passed (fits_power m) _ _ e).0
