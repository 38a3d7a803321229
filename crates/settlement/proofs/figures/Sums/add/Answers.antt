use Rattle.std.proofs.Common.{ℕ, ◌*◌, ◌≤◌, ℤ, pos, ◌+ℤ◌, ◌*ℤ◌, nat_abs, lit<, w64, to_z, of_z}
use Rattle.arithmetic.proofs.Machine.{Holds, natural, fits, back, figure, plus, times}
use Rattle.settlement.proofs.figures.Sums.add.Goals as goal

-- A balance over its seconds, and a sum with it.
energy : (b : ℤ) (s : ℕ) → nat_abs b ≤ 1206000000 → s ≤ 3600 → Holds (to_z w64 (of_z w64 b) *ℤ to_z w64 s) (b *ℤ pos s) 4341600000000
energy b s h k = times (figure w64 b h (lit< tt)) (natural w64 s 3600 k (lit< tt))

balances : (x b : ℤ) (s : ℕ) → nat_abs x ≤ 23 * 4341600000000 → nat_abs b ≤ 1206000000 → s ≤ 3600
    → Holds (to_z w64 (of_z w64 x) +ℤ to_z w64 (of_z w64 (to_z w64 (of_z w64 b) *ℤ to_z w64 s))) (x +ℤ b *ℤ pos s) (24 * 4341600000000)
balances x b s g h k = plus (figure w64 x g (lit< tt)) (back w64 (energy b s h k) (lit< tt))

-- A sum of amounts with one more.
added : (x y : ℤ) → nat_abs x ≤ 23 * 1206000000000 → nat_abs y ≤ 1206000000000 → Holds (to_z w64 (of_z w64 x) +ℤ to_z w64 (of_z w64 y)) (x +ℤ y) (24 * 1206000000000)
added x y g h = plus (figure w64 x g (lit< tt)) (figure w64 y h (lit< tt))

pub overflow_add-self : goal.overflow_add-self
overflow_add-self c = fits w64 (balances c.args.self.now.balance c.args.figures.now.balance c.args.seconds c.requires.room.balance c.requires.figures.balance c.requires.seconds) (lit< tt)

pub returns : goal.returns
returns c =
    let s = c.args.self.now in
    let f = c.args.figures.now in
    let room = c.requires.room in
    let small = c.requires.figures in
    let balance = back w64 (balances s.balance f.balance c.args.seconds room.balance small.balance c.requires.seconds) (lit< tt) in
    let energy = back w64 (added s.energy f.energy room.energy small.energy) (lit< tt) in
    let loss = back w64 (added s.loss f.loss room.loss small.loss) (lit< tt) in
    let congestion = back w64 (added s.congestion f.congestion room.congestion small.congestion) (lit< tt) in
    let spin = back w64 (added s.spin f.spin room.spin small.spin) (lit< tt) in
    λ k. record { balance = balance.is k; energy = energy.is k; loss = loss.is k; congestion = congestion.is k; spin = spin.is k }
