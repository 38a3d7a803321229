-- A line grows figure by figure.
use Rattle.std.proofs.Common.{◌≡◌, ℕ, List, [], ◌∷◌, ◌++◌, ℤ, sym, ap, ◌∙◌}
use Rattle.std.proofs.lemmas.List.{append_assoc}
use Rattle.listing.specs.Columns.{figures}
use Rattle.listing.specs.Fields.{further, line_of}

-- A whole line that ends with figures: its first field, its second, and the figures.
pub figures_line : (first one two all field : List ℕ) (given columns : List ℤ) → one ≡ first → two ≡ one ++ (44 ∷ field) → all ≡ two ++ (further (figures given) ++ (10 ∷ [])) → given ≡ columns → all ≡ line_of (first ∷ field ∷ figures columns)
figures_line first one two all field given columns p q r e =
    let end = further (figures given) ++ (10 ∷ []) in
    r ∙ ap (λ x. x ++ end) (q ∙ ap (λ x. x ++ (44 ∷ field)) p) ∙ append_assoc first (44 ∷ field) end
    ∙ ap (λ x. first ++ x) (sym (append_assoc (44 ∷ field) (further (figures given)) (10 ∷ []))) ∙ ap (λ x. line_of (first ∷ field ∷ figures x)) e
