-- The cut sets of a list with their orders, one after another, and how many there are.
use Rattle.std.specs.Prelude.{◌≡◌, ℕ, zero, suc, ◌+◌, ◌<◌, ◌≤◌, List, [], ◌∷◌, ◌++◌, length, drop, get_or, All, Option}
use Rattle.std.specs.Prelude.{Some, None, true, false, codes, decimal, is_some, slice_get, unwrap_or}
use Rattle.std.specs.List.{flat_map}
use Rattle.std.proofs.Common.{sym, ap, subst, ◌∙◌, refl, arith, append_assoc, append-nil, true≢false}
use Rattle.std.proofs.lemmas.List.{drop_more, drop_all}
use Rattle.std.proofs.lemmas.Option.{slice_get_within, slice_get-get_or}
use Rattle.cut_sequences.specs.Orders.{order_total, orders_at}
use Rattle.edge_io.specs.Out.{Output, Puts}
use Rattle.fault_definitions.specs.Tree.{FaultTree, IsUnitOf, unit_count, gate_count}
use Rattle.cut_texts.specs.CutsText.{Listed, count_line, cut_block, cut_blocks, cut_line, cut_number, listed_with}
use Rattle.cut_texts.specs.CutsText.{order_line, order_lines, orders_in, tree_counts}
use Rattle.cut_texts.specs.{DiagramText.counts_text, Spelling.CanList, Spelling.CanSpell, UnitTexts.spaced}
use Rattle.cut_texts.specs.{declared.spelled.Listing.Listing}

-- the set at a place
set_at : (cuts : List (List ℕ)) (i : ℕ) (set : List ℕ) → slice_get cuts i ≡ Some set → get_or cuts i [] ≡ set
set_at cuts i set at =
    ap (λ o. unwrap_or o set) (sym (slice_get-get_or cuts i [] (slice_get_within cuts i set at)) ∙ at)

-- its units have their texts
pub set_spelled : {listing : Listing} (i : ℕ) {set : List ℕ} → CanList listing
    → slice_get listing.cuts.now i ≡ Some set → CanSpell listing.names set
set_spelled {listing} i {set} can at = record {
  texts = can.texts;
  units = subst (All (IsUnitOf listing.names.tree.now)) (set_at listing.cuts.now i set at)
      (can.units i [] (slice_get_within listing.cuts.now i set at));
}

-- so have those of an order
pub order_spelled : {listing : Listing} (i j : ℕ) {order : List ℕ} → CanList listing → i < length listing.orders.now
    → j < length (orders_at listing.orders.now i) → order ≡ get_or (orders_at listing.orders.now i) j []
    → CanSpell listing.names order
order_spelled {listing} i j can within below is = record {
  texts = can.texts;
  units = subst (All (IsUnitOf listing.names.tree.now)) (sym is) (can.made.units i None within j [] below);
}

-- ---- cut sets with their orders

-- the pair at a place
pair_at : (cuts : List (List ℕ)) (lists : List (Option (List (List ℕ)))) (i : ℕ) (set : List ℕ)
    (orders : Option (List (List ℕ))) → length lists ≡ length cuts
    → get_or (listed_with cuts lists) i (set, orders) ≡ (get_or cuts i set, get_or lists i orders)
pair_at [] [] i set orders same = refl
pair_at [] (list ∷ lists) i set orders same = absurd (omega (arith, same))
pair_at (cut ∷ cuts) [] i set orders same = absurd (omega (arith, same))
pair_at (cut ∷ cuts) (list ∷ lists) zero set orders same = refl
pair_at (cut ∷ cuts) (list ∷ lists) (suc i) set orders same = pair_at cuts lists i set orders (omega (arith, same))

length_with : (cuts : List (List ℕ)) (lists : List (Option (List (List ℕ)))) → length lists ≡ length cuts
    → length (listed_with cuts lists) ≡ length cuts
length_with [] lists same = refl
length_with (cut ∷ cuts) [] same = absurd (omega (arith, same))
length_with (cut ∷ cuts) (list ∷ lists) same =
    let rest = length_with cuts lists (omega (arith, same)) in omega (arith, rest)

orders_with : (cuts : List (List ℕ)) (lists : List (Option (List (List ℕ)))) → length lists ≡ length cuts
    → orders_in (listed_with cuts lists) ≡ lists
orders_with [] [] same = refl
orders_with [] (list ∷ lists) same = absurd (omega (arith, same))
orders_with (cut ∷ cuts) [] same = absurd (omega (arith, same))
orders_with (cut ∷ cuts) (list ∷ lists) same = ap (λ rest. list ∷ rest) (orders_with cuts lists (omega (arith, same)))

-- the next block to be put
pub next_block : (tree : FaultTree) (cuts : List (List ℕ)) (lists : List (Option (List (List ℕ)))) (i : ℕ)
    → length lists ≡ length cuts → i < length cuts
    → cut_blocks tree (i + 1) (drop i (listed_with cuts lists))
    ≡ cut_block tree (i + 1) (get_or cuts i []) (get_or lists i None)
    ++ cut_blocks tree (i + 1 + 1) (drop (i + 1) (listed_with cuts lists))
next_block tree cuts lists i same within =
    ap (cut_blocks tree (i + 1)) (drop_more (listed_with cuts lists) i ([], None)
    (subst (λ n. i < n) (sym (length_with cuts lists same)) within))
    ∙ ap (λ (listed : Listed). cut_block tree (i + 1) listed.0 listed.1
    ++ cut_blocks tree (i + 1 + 1) (drop (i + 1) (listed_with cuts lists)))
    (pair_at cuts lists i [] None same)

module _ (tree : FaultTree) (number : ℕ) (set : List ℕ) where
  -- what stands behind the line of a set can be put with it
  joined : (more : List ℕ)
      → cut_number number ++ (spaced tree set ++ (codes "\n" ++ more)) ≡ cut_line tree number set ++ more
  joined more =
      sym (append_assoc (cut_number number) (spaced tree set ++ codes "\n") more
      ∙ ap (λ l. cut_number number ++ l) (append_assoc (spaced tree set) (codes "\n") more))

  -- the block of a set whose orders are not listed
  pub unlisted_block : (orders : Option (List (List ℕ))) → is_some orders ≡ false
      → cut_number number ++ (spaced tree set ++ codes "\n  (not listed)\n") ≡ cut_block tree number set orders
  unlisted_block None unlisted = joined (codes "  (not listed)\n")
  unlisted_block (Some orders) unlisted = absurd (true≢false unlisted)

  -- and of one that has none
  pub orderless_block : (orders : Option (List (List ℕ))) → is_some orders ≡ true → length (unwrap_or orders []) ≡ 0
      → cut_number number ++ (spaced tree set ++ codes "\n  (none)\n") ≡ cut_block tree number set orders
  orderless_block None listed none = absurd (true≢false (sym listed))
  orderless_block (Some []) listed none = joined (codes "  (none)\n")
  orderless_block (Some (order ∷ orders)) listed none = absurd (omega (arith, none))

-- the orders of a set that has some
pub listed_lines : (tree : FaultTree) (orders : Option (List (List ℕ))) → is_some orders ≡ true
    → 0 < length (unwrap_or orders []) → flat_map (order_line tree) (unwrap_or orders []) ≡ order_lines tree orders
listed_lines tree None listed some = absurd (true≢false (sym listed))
listed_lines tree (Some []) listed some = absurd (omega (arith, some))
listed_lines tree (Some (order ∷ orders)) listed some = refl

-- the block of the set at a place
pub block_put : {K : Type 0} {taken : K → Option (List ℕ)} {faults : K → ℕ} {old new : Output K} (listing : Listing)
    (i : ℕ) (set : List ℕ) → slice_get listing.cuts.now i ≡ Some set → {text : List ℕ} → Puts taken faults old new text
    → text ≡ cut_block listing.names.tree.now (i + 1) set (get_or listing.orders.now i None)
    → Puts taken faults old new (cut_block listing.names.tree.now (i + 1) (get_or listing.cuts.now i [])
    (get_or listing.orders.now i None))
block_put {taken} {faults} {old} {new} listing i set at put is =
    subst (Puts taken faults old new) (is ∙ ap (λ s. cut_block listing.names.tree.now (i + 1) s
    (get_or listing.orders.now i None)) (sym (set_at listing.cuts.now i set at))) put

-- no block is left
pub no_block : (tree : FaultTree) (cuts : List (List ℕ)) (lists : List (Option (List (List ℕ)))) (i : ℕ)
    → length lists ≡ length cuts → length cuts ≤ i
    → cut_blocks tree (i + 1) (drop i (listed_with cuts lists)) ≡ []
no_block tree cuts lists i same all =
    ap (cut_blocks tree (i + 1)) (drop_all i (listed_with cuts lists)
    (subst (λ n. n ≤ i) (sym (length_with cuts lists same)) all))

-- how many there are, and how many orders
pub counts_with : (cuts : List (List ℕ)) (lists : List (Option (List (List ℕ)))) {count total : ℕ}
    → length lists ≡ length cuts → count ≡ length cuts
    → total ≡ order_total lists → count_line count total
    ≡ count_line (length (listed_with cuts lists)) (order_total (orders_in (listed_with cuts lists)))
counts_with cuts lists {total} same is all =
    ap (λ n. count_line n total) (is ∙ sym (length_with cuts lists same))
    ∙ ap (count_line (length (listed_with cuts lists))) (all ∙ ap order_total (sym (orders_with cuts lists same)))

-- the counts of a tree, put as numbers
pub counted : {K : Type 0} {taken : K → Option (List ℕ)} {faults : K → ℕ} {old new : Output K} (title : List ℕ)
    (tree : FaultTree) {units gates : ℕ}
    → units ≡ unit_count tree → gates ≡ gate_count tree → Puts taken faults old new (tree_counts title units gates)
    → Puts taken faults old new (tree_counts title (unit_count tree) (gate_count tree))
counted {taken} {faults} {old} {new} title tree {gates} all all_gates put =
    subst (Puts taken faults old new) (ap (λ n. tree_counts title n gates) all
    ∙ ap (tree_counts title (unit_count tree)) all_gates) put

-- a text round two numbers, put in five pieces
pub two_numbers : {K : Type 0} {taken : K → Option (List ℕ)} {faults : K → ℕ} {old new : Output K}
    (front middle back : List ℕ) {one : List ℕ} {first : List ℕ} → one ≡ first
    → {two second : List ℕ} → two ≡ second → Puts taken faults old new
    (front ++ (one ++ (middle ++ (two ++ (back ++ [])))))
    → Puts taken faults old new (front ++ first ++ middle ++ second ++ back)
two_numbers {taken} {faults} {old} {new} front middle back {one} {first} is {two} is_two put =
    let joined : front ++ (one ++ (middle ++ (two ++ (back ++ [])))) ≡ front ++ one ++ middle ++ two ++ back =
    simp (append_assoc, append-nil) refl in
    subst (Puts taken faults old new)
    (joined ∙ ap (λ n. front ++ n ++ middle ++ two ++ back) is ∙ ap (λ n. front ++ first ++ middle ++ n ++ back) is_two)
    put

-- two counts a line
pub counts_put : {K : Type 0} {taken : K → Option (List ℕ)} {faults : K → ℕ} {old new : Output K} (cuts members : ℕ)
    → Puts taken faults old new (codes "cuts: " ++ decimal cuts ++ codes "\nmembers: " ++ decimal members ++ codes "\n")
    → Puts taken faults old new (counts_text cuts members)
counts_put {taken} {faults} {old} {new} cuts members put =
    let joined : codes "cuts: " ++ decimal cuts ++ codes "\nmembers: " ++ decimal members ++ codes "\n"
    ≡ counts_text cuts members = simp (append_assoc) refl in
    subst (Puts taken faults old new) joined put
