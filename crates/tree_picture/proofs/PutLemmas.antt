-- A node's line that is put behind its head.
use Rattle.std.proofs.Common.{◌≡◌, ℕ, List, ◌++◌, Option, sym, ap, ◌∙◌, subst, append_assoc}
use Rattle.std.specs.Prelude.{codes, decimal}
use Rattle.edge_io.specs.Out.{Output, Puts}
use Rattle.tree_picture.specs.PictureText.{node_head}

-- the head of a node's line with the beginning of its label
head_text : (node : ℕ) (rest : List ℕ)
    → (codes "  " ++ (decimal node ++ codes " [label=\"")) ++ rest ≡ node_head node ++ (codes "label=\"" ++ rest)
head_text node rest =
    ap (λ l. codes "  " ++ l) (append_assoc (decimal node) (codes " [label=\"") rest
    ∙ sym (append_assoc (decimal node) (codes " [") (codes "label=\"" ++ rest)))

module _ {K : Type 0} (taken : K → Option (List ℕ)) (faults : K → ℕ) where
  pub headed : {old new : Output K} (node : ℕ) (rest : List ℕ)
      → Puts taken faults old new ((codes "  " ++ (decimal node ++ codes " [label=\"")) ++ rest)
      → Puts taken faults old new (node_head node ++ (codes "label=\"" ++ rest))
  headed {old} {new} node rest put = subst (Puts taken faults old new) (head_text node rest) put
