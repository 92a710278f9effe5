-- What a node reads, and what its recipe owes.
use Rattle.std.proofs.Common.{◌≡◌, ◌⊎◌, ℕ, zero, suc, ◌-◌, ◌≤◌, true, false, List, [], ◌∷◌, ◌++◌, All, get_or, drop}
use Rattle.std.proofs.Common.{take, length, map, refl, ap, sym, ◌∙◌, inl, inr, arith}
use Rattle.std.proofs.Math.Seq.{take-length}
use Rattle.std.proofs.lemmas.List.Elements.{All-head, All-tail, All-nil, All-cons}
use Rattle.fault_words.specs.declared.kind.GateKind.{GateKind}
use Rattle.fault_words.specs.declared.kind.GateKind.TheVariants.{And, Or, Votes, Pand, Por, Seq, Fdep, Csp, Wsp, Hsp}
use Rattle.fault_definitions.specs.{CutFamily.IsCutFamily, Trigger.below, WellFormed.IsSoundKind}
use Rattle.fault_definitions.specs.Tree.{FaultTree, IsNodeOf, is_fdep}
use Rattle.tree_families.specs.Due.{IsDueToRecipe, IsDueToTree, one_node}
use Rattle.tree_families.specs.Recipe.{StandFor, needs_all, node_recipe}
use Rattle.zdd_families.specs.Map.{Knows, family}
use Rattle.zdd_product.specs.{Seats.KnowsOne, Voting.families}
use Rattle.zdd_nodes.specs.Reading.{reference_of, CanVote}

-- references that are known as families which stand for nodes
module _ (stands : ℕ → List (List ℕ) → Type 0) (known : ℕ → ℕ) (references : List ℕ) where
  -- that of one node
  abbrev IsKnown : ℕ → Type 0
  IsKnown input = KnowsOne known (reference_of references input) (stands input)

  pub stand_of : (nodes : List ℕ) → All (λ input. KnowsOne known (reference_of references input) (stands input)) nodes
      → StandFor stands nodes (families known (map (reference_of references) nodes))
  stand_of [] all = tt
  stand_of (node ∷ nodes) all =
      ((All-head IsKnown node nodes all).1, stand_of nodes (All-tail IsKnown node nodes all))

  pub known_of : (nodes : List ℕ) → All (λ input. KnowsOne known (reference_of references input) (stands input)) nodes
      → All (Knows known) (map (reference_of references) nodes)
  known_of [] all = All-nil (Knows known)
  known_of (node ∷ nodes) all =
      All-cons (Knows known) (reference_of references node) (map (reference_of references) nodes)
      (All-head IsKnown node nodes all).0 (known_of nodes (All-tail IsKnown node nodes all))

-- the front of a list that was written over
pub front_of : (n size : ℕ) (xs ys : List ℕ) → n ≤ size → n ≤ length xs → take n (take size (xs ++ ys)) ≡ take n xs
front_of zero size xs ys within enough = refl
front_of (suc n) zero xs ys within enough = absurd (omega arith)
front_of (suc n) (suc size) [] ys within enough = absurd (omega arith)
front_of (suc n) (suc size) (x ∷ xs) ys within enough =
    ap (λ q. x ∷ q) (front_of n size xs ys (omega arith) (omega arith))

pub StandFor-length : (stands : ℕ → List (List ℕ) → Type 0) (nodes : List ℕ) (fs : List (List (List ℕ)))
    → StandFor stands nodes fs → length fs ≡ length nodes
StandFor-length stands [] [] stand = refl
StandFor-length stands [] (f ∷ fs) stand = absurd stand
StandFor-length stands (node ∷ nodes) [] stand = absurd stand
StandFor-length stands (node ∷ nodes) (f ∷ fs) stand =
    let rest = StandFor-length stands nodes fs stand.1 in omega (arith, rest)

-- a gate has some input
pub sound_some : (tree : FaultTree) (kind : GateKind) (inputs : List ℕ) → IsSoundKind tree kind inputs
    → 1 ≤ length inputs
sound_some tree And inputs sound = sound
sound_some tree Or inputs sound = sound
sound_some tree (Votes least of) inputs sound =
    let a = sound.some in let b = sound.enough in let e = sound.counted in omega (arith, a, b, e)
sound_some tree Pand inputs sound = sound
sound_some tree Por inputs sound = sound
sound_some tree Seq inputs sound = sound
sound_some tree Fdep inputs sound = let a = sound.enough in omega (arith, a)
sound_some tree Csp inputs sound = sound.enough
sound_some tree Wsp inputs sound = sound.enough
sound_some tree Hsp inputs sound = sound.enough

-- and where there is room for all inputs, there is room for the votes
pub sound_votes : (tree : FaultTree) (kind : GateKind) (inputs : List ℕ) (places : ℕ) → IsSoundKind tree kind inputs
    → length inputs ≤ places → CanVote kind places
sound_votes tree (Votes least of) inputs places sound room =
    (sound.some, let b = sound.enough in let e = sound.counted in omega (arith, b, e, room))
sound_votes tree _ inputs places sound room = tt

-- the first of some families and the others
pub first_and_others : (known : ℕ → ℕ) (list : List ℕ) → 1 ≤ length list
    → families known list ≡ family known (get_or list 0 0) ∷ families known (take (length list - 1) (drop 1 list))
first_and_others known [] some = absurd (omega arith)
first_and_others known (r ∷ list) some =
    let e : length (r ∷ list) - 1 ≡ length list = omega arith in
    ap (λ q. family known r ∷ families known q) (sym (ap (λ n. take n list) e ∙ take-length list))

-- the kinds that need all of their inputs
pub needs_from : {kind : GateKind} → (kind ≡ And)
    ⊎ ((kind ≡ Pand) ⊎ ((kind ≡ Seq) ⊎ ((kind ≡ Csp) ⊎ ((kind ≡ Wsp) ⊎ (kind ≡ Hsp))))) → needs_all kind ≡ true
needs_from (inl same) = ap needs_all same
needs_from (inr (inl same)) = ap needs_all same
needs_from (inr (inr (inl same))) = ap needs_all same
needs_from (inr (inr (inr (inl same)))) = ap needs_all same
needs_from (inr (inr (inr (inr (inl same))))) = ap needs_all same
needs_from (inr (inr (inr (inr (inr same))))) = ap needs_all same

-- what is due to the recipe of a node is due to the tree
pub node_due : {tree : FaultTree} (node : ℕ) → IsNodeOf tree node → is_fdep tree node ≡ false
    → (fs : List (List (List ℕ))) → StandFor (IsCutFamily tree) (below tree node) fs → {due : List (List ℕ)}
    → IsDueToRecipe (node_recipe tree node fs) due → IsDueToTree tree due
node_due node is_node read fs stand is =
    one_node (record { is_node = is_node; has_family = read; families = fs; cut_families = stand; is = is })
