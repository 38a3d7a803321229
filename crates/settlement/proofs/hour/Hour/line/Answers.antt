use Rattle.std.proofs.Common.{◌≡◌, sym, ◌∙◌, subst}
use Rattle.settlement.specs.Formulas.{line_of, hour_line}
use Rattle.settlement.specs.Nearness.{NearWhereSettled, SignFree}
use Rattle.settlement.proofs.Nearness.{near_line, shares_reading, sign_free}
use Rattle.settlement.proofs.hour.Hour.line.Goals as goal

pub returns : goal.returns
returns g c =
    let e = g.E.Edition.terms c.args.edition.now in
    let h = c.args.self.now.standing in
    let r = c.args.region in
    let v : c.close.result ≡ hour_line e r h = c.close.ensures.value ∙ (λ k. line_of (c.sign.ensures k) h (c.settled_sums.ensures.value k)) in
    record {
      value = v;
      near = subst (NearWhereSettled e h) (sym v) (near_line e (g.met.E.Edition.lawful c.args.edition.now) r h);
      shared = shares_reading h;
      sign_free = subst (SignFree e r h) (sym v) (sign_free e r h);
      small = c.close.ensures.small;
      short = c.close.ensures.short;
    }
