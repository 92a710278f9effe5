use Rattle.std.proofs.Common.{◌≡◌, ◌≤◌, ℕ, [], ◌∷◌, ◌∙◌, ap, sym, lit<, lit≤}
use Rattle.zdd_words.specs.Reference.{IsReference}
use Rattle.zdd_words.specs.Word.{level_of, lo_of, hi_of, packed}
use Rattle.zdd_words.proofs.WordLemmas.{packed-filled, level_of-packed, lo_of-packed}
use Rattle.zdd_words.proofs.WordLemmas.{hi_of-packed}
use Rattle.zdd_families.specs.{Family.branch, Map.IsClosed, Map.family}
use Rattle.zdd_families.proofs.MapLemmas.{family-node, family-empty, family-unit}
use Rattle.zdd_families.proofs.laws.a_node_of_two_sets.Goals as goal

-- a reference with a word of this level, lo and hi has the branch of their families
of_word : (known : ℕ → ℕ) (r level lo hi : ℕ) → IsClosed known → 1 ≤ level → IsReference lo → IsReference hi
    → known r ≡ packed level lo hi → family known r ≡ branch level (family known lo) (family known hi)
of_word known r level lo hi closed unit small small' is =
    family-node known r closed (λ absent. packed-filled level lo hi unit (sym is ∙ absent))
    ∙ ap (λ w. branch (level_of w) (family known (lo_of w)) (family known (hi_of w))) is
    ∙ ap (λ n. branch n (family known (lo_of (packed level lo hi))) (family known (hi_of (packed level lo hi))))
    (level_of-packed level lo hi small small')
    ∙ ap (λ n. branch level (family known n) (family known (hi_of (packed level lo hi))))
    (lo_of-packed level lo hi small small')
    ∙ ap (λ n. branch level (family known lo) (family known n)) (hi_of-packed level lo hi small')

set_of_2 : (known : ℕ → ℕ) (q : ℕ) → IsClosed known → known q ≡ packed 2 0 1 → family known q ≡ (2 ∷ []) ∷ []
set_of_2 known q closed is =
    of_word known q 2 0 1 closed (lit≤ tt) (lit< tt) (lit< tt) is
    ∙ ap (λ f. branch 2 f (family known 1)) (family-empty known)
    ∙ ap (λ f. branch 2 [] f) (family-unit known)

pub returns : goal.returns
returns c = λ known r q closed small is is'.
    of_word known r 1 q 1 closed (lit≤ tt) small (lit< tt) is'
    ∙ ap (λ f. branch 1 f (family known 1)) (set_of_2 known q closed is)
    ∙ ap (λ f. branch 1 ((2 ∷ []) ∷ []) f) (family-unit known)
