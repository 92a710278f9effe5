-- Options taken off the front of some.
use Rattle.std.specs.Prelude.{◌≡◌, ℕ, ◌-◌, ◌≤◌, true, false, ◌&&◌, List, [], ◌∷◌, length, drop, take, get_or}
use Rattle.std.proofs.Common.{refl, arith, sym, ap, ◌∙◌}
use Rattle.std.proofs.lemmas.List.{take_all, length-drop}
use Rattle.board_words.specs.Options.{are_options, is_said_once}

-- what stands behind an option and its value
abbrev pub behind : List (List ℕ) → List (List ℕ)
behind words = take (length words - 2) (drop 2 words)

behind-drop : (words : List (List ℕ)) → behind words ≡ drop 2 words
behind-drop words = take_all (length words - 2) (drop 2 words) (omega (arith, length-drop 2 words))

taken_off : (known : List (List ℕ)) (words : List (List ℕ)) (d : List ℕ) → 2 ≤ length words
    → are_options known words ≡ (is_said_once known (get_or words 0 d) (drop 2 words)
    && are_options known (drop 2 words))
taken_off known [] d long = absurd (omega (arith, long))
taken_off known (option ∷ []) d long = absurd (omega (arith, long))
taken_off known (option ∷ value ∷ rest) d long = refl

module _ (known : List (List ℕ)) (words : List (List ℕ)) (d : List ℕ) (long : 2 ≤ length words) {option : List ℕ}
    (first : option ≡ get_or words 0 d) where
  said_there : is_said_once known option (behind words) ≡ is_said_once known (get_or words 0 d) (drop 2 words)
  said_there =
      ap (λ o. is_said_once known o (behind words)) first
      ∙ ap (is_said_once known (get_or words 0 d)) (behind-drop words)

  -- the first is not said well
  pub are_options-no : is_said_once known option (behind words) ≡ false → false ≡ are_options known words
  are_options-no said =
      ap (λ b. b && are_options known (drop 2 words)) (sym said ∙ said_there) ∙ sym (taken_off known words d long)

  -- it is, and the others are to be looked at
  pub are_options-more : is_said_once known option (behind words) ≡ true
      → are_options known (behind words) ≡ are_options known words
  are_options-more said =
      ap (are_options known) (behind-drop words)
      ∙ ap (λ b. b && are_options known (drop 2 words)) (sym said ∙ said_there)
      ∙ sym (taken_off known words d long)
