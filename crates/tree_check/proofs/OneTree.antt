-- The statements of a text stand for at most one tree: its ranks are the only ones.
use Rattle.std.specs.Prelude.{◌≡◌, ℕ, zero, suc, ◌<◌, max, List, [], ◌∷◌, All, get_or}
use Rattle.std.proofs.Common.{sym, ap, subst, ◌∙◌, refl, arith}
use Rattle.std.proofs.lemmas.List.{same_lists, get_or_default}
use Rattle.std.proofs.lemmas.List.Elements.{All-head, All-tail}
use Rattle.fault_definitions.specs.Tree.{FaultTree, IsNodeOf, rank_of}
use Rattle.fault_definitions.specs.{Trigger.below, Rank.rank_over, WellFormed.IsTree}
use Rattle.fault_definitions.proofs.RankLaws.{below_ranks, below_are_nodes}
use Rattle.galileo_tree.specs.{declared.raw.Statement.Statement, ReadTree.ReadTree}
use Rattle.tree_check.specs.{Checked.Stands, TreeOf.tree_of}

-- nodes that have the same ranks in two trees have the same one above them
same_over : (tree other : FaultTree) (nodes : List ℕ) → All (λ node. rank_of tree node ≡ rank_of other node) nodes
    → rank_over tree nodes ≡ rank_over other nodes
same_over tree other [] same = refl
same_over tree other (node ∷ nodes) same =
    ap (λ rank. max (suc rank) (rank_over tree nodes))
    (All-head (λ n. rank_of tree n ≡ rank_of other n) node nodes same)
    ∙ ap (max (suc (rank_of other node))) (same_over tree other nodes
    (All-tail (λ n. rank_of tree n ≡ rank_of other n) node nodes same))

module _ (statements : List Statement) (ranks others : List ℕ) (one : IsTree (tree_of statements ranks))
    (two : IsTree (tree_of statements others)) where
  -- a node below a rank has the same rank by both
  same_rank : (height node : ℕ) → IsNodeOf (tree_of statements ranks) node
      → rank_of (tree_of statements ranks) node < height
      → rank_of (tree_of statements ranks) node ≡ rank_of (tree_of statements others) node
  same_rank zero node is_node low = absurd (omega (arith, low))
  same_rank (suc height) node is_node low =
      one.ranked node is_node
      ∙ same_over (tree_of statements ranks) (tree_of statements others) (below (tree_of statements ranks) node)
      (λ k d short.
      same_rank height (get_or (below (tree_of statements ranks) node) k d) (below_are_nodes one node k d short)
      (let lower = below_ranks one node is_node k d short in omega (arith, lower, low)))
      ∙ sym (two.ranked node is_node)

  pub same_ranks : ranks ≡ others
  same_ranks =
      same_lists ranks others (one.ranks_all ∙ sym two.ranks_all)
      (λ k d short.
      let is_node : IsNodeOf (tree_of statements ranks) (suc k) = (omega arith, omega (arith, short, one.ranks_all)) in
      get_or_default ranks k d 0 short
      ∙ same_rank (suc (rank_of (tree_of statements ranks) (suc k))) (suc k) is_node (omega arith)
      ∙ get_or_default others k 0 d (omega (arith, short, one.ranks_all, two.ranks_all)))

-- two trees of the same statements are equal
pub same_tree : (read : ReadTree) (tree other : FaultTree) → Stands read tree → IsTree tree → Stands read other
    → IsTree other → tree ≡ other
same_tree read tree other one kept two kept' =
    let same : tree.ranks ≡ other.ranks =
    same_ranks read.statements tree.ranks other.ranks (subst IsTree one.is kept) (subst IsTree two.is kept') in
    one.is ∙ ap (tree_of read.statements) same ∙ sym two.is
