-- What follows from the definitions of `specs/Nodes`.
use Rattle.std.specs.Prelude.{◌≡◌, ◌≢◌, ◌↔◌, ℕ, zero, suc, List, map, length, Contains}
use Rattle.std.proofs.Common.{refl, sym, ◌∙◌, subst, inl, inr, arith}
use Rattle.std.proofs.lemmas.List.{length-map}
use Rattle.zdd_words.specs.Word.{lo_of, hi_of}
use Rattle.zdd_families.specs.Map.{Knows, IsClosed, IsUnique, family}
use Rattle.zdd_families.proofs.MapLemmas.{family-empty, family-unit, lo_known, hi_known}
use Rattle.zdd_families.proofs.Canonical.{family-same, Splits-node}
use Rattle.zdd_families.proofs.{CutsLemmas.split-lo, CutsLemmas.split-hi, Parts.inner-from_split}
use Rattle.zdd_families.specs.{Counting.EachOnce, Due.Splits}
use Rattle.zdd_families.proofs.CountingLemmas.{IsImage, IsImage-from_map, each_once-map, map-contains}
use Rattle.zdd_families.proofs.CountingLemmas.{same_length}
use Rattle.zdd_families.specs.Nodes.{IsNodeCount, IsReached, Reaches, reached_hi, reached_itself, reached_lo}
use Rattle.zdd_families.specs.Nodes.{reaches_hi, reaches_itself, reaches_lo}

-- ---- references reach what their families reach

-- the family of a terminal has no units
node_from_split : (known : ℕ → ℕ) (r : ℕ) {x : ℕ} {lo hi : List (List ℕ)} → Knows known r
    → Splits x (family known r) lo hi → known r ≢ 0
node_from_split known r (inr has) s = has
node_from_split known zero (inl below) s = absurd ((inner-from_split _ _ _ _ s).not_none (family-empty known))
node_from_split known (suc zero) (inl below) s = absurd ((inner-from_split _ _ _ _ s).not_unit (family-unit known))
node_from_split known (suc (suc r)) (inl below) s = absurd (omega arith)

-- a reference that another reaches, as a family
pub record ReachesAs (known : ℕ → ℕ) (r : ℕ) (g : List (List ℕ)) : Type 0 where
  pub reference : ℕ
  pub reaches : Reaches known r reference
  pub is : family known reference ≡ g

module _ (known : ℕ → ℕ) (closed : IsClosed known) where
  from_lo : {r : ℕ} {g : List (List ℕ)} → known r ≢ 0 → ReachesAs known (lo_of (known r)) g → ReachesAs known r g
  from_lo has found = record { reference = found.reference; reaches = reaches_lo has found.reaches; is = found.is }

  from_hi : {r : ℕ} {g : List (List ℕ)} → known r ≢ 0 → ReachesAs known (hi_of (known r)) g → ReachesAs known r g
  from_hi has found = record { reference = found.reference; reaches = reaches_hi has found.reaches; is = found.is }

  reaches_as : {f g : List (List ℕ)} → IsReached f g → {r : ℕ} → Knows known r → f ≡ family known r
      → ReachesAs known r g
  reaches_as (reached_itself {x = x} {lo = lo} {hi = hi} s) {r} knows same =
      let here = subst (λ q. Splits x q lo hi) same s in
      record { reference = r; reaches = reaches_itself (node_from_split known r knows here); is = sym same }
  reaches_as (reached_lo {x = x} {lo = lo} {hi = hi} s deeper) {r} knows same =
      let here = subst (λ q. Splits x q lo hi) same s in
      let has = node_from_split known r knows here in
      from_lo has (reaches_as deeper (lo_known (closed r has).1) (split-lo here (Splits-node known r closed has)))
  reaches_as (reached_hi {x = x} {lo = lo} {hi = hi} s deeper) {r} knows same =
      let here = subst (λ q. Splits x q lo hi) same s in
      let has = node_from_split known r knows here in
      from_hi has (reaches_as deeper (hi_known (closed r has).1) (split-hi here (Splits-node known r closed has)))

  pub reached-reference : {r q : ℕ} → Reaches known r q → IsReached (family known r) (family known q)
  reached-reference {r} (reaches_itself has) = reached_itself (Splits-node known r closed has)
  reached-reference {r} (reaches_lo has deeper) = reached_lo (Splits-node known r closed has) (reached-reference deeper)
  reached-reference {r} (reaches_hi has deeper) = reached_hi (Splits-node known r closed has) (reached-reference deeper)

  pub reaches-known : (r q : ℕ) → Reaches known r q → Knows known q
  reaches-known r q (reaches_itself has) = inr has
  reaches-known r q (reaches_lo has deeper) = reaches-known (lo_of (known r)) q deeper
  reaches-known r q (reaches_hi has deeper) = reaches-known (hi_of (known r)) q deeper

  pub reached-as : (r : ℕ) (g : List (List ℕ)) → Knows known r → IsReached (family known r) g ↔ ReachesAs known r g
  reached-as r g knows = (
    λ reached. reaches_as reached knows refl,
    λ found. subst (IsReached (family known r)) found.is (reached-reference found.reaches),
  )

-- ---- the count

-- a family has one number of nodes
pub node_count-one : (f : List (List ℕ)) (n m : ℕ) → IsNodeCount f n → IsNodeCount f m → n ≡ m
node_count-one f n m is is' =
    is.counted
    ∙ same_length _ _ is.each_once is'.each_once
    (λ g. (λ has. (is'.reached g).1 ((is.reached g).0 has), λ has. (is.reached g).1 ((is'.reached g).0 has)))
    ∙ sym is'.counted

-- over a closed map in which different references have different words, the references that a known
-- reference reaches, each once, are as many as the nodes of its family
module _ (known : ℕ → ℕ) (closed : IsClosed known) (unique : IsUnique known) (r : ℕ) (knows : Knows known r)
    (references : List ℕ) (once : EachOnce references)
    (reaches : (q : ℕ) → Contains references q ↔ Reaches known r q) where
  tell_apart : (a b : ℕ) → Contains references a → Contains references b → family known a ≡ family known b → a ≡ b
  tell_apart a b has has' same =
      family-same known a b closed unique
      (reaches-known known closed r a ((reaches a).0 has)) (reaches-known known closed r b ((reaches b).0 has')) same

  members_to : (g : List (List ℕ)) → Contains (map (family known) references) g → IsReached (family known r) g
  members_to g has =
      let image : IsImage (family known) references g = IsImage-from_map references g has in
      subst (IsReached (family known r)) image.is (reached-reference known closed {r = r} {q = image.of}
      ((reaches image.of).0 image.has))

  members_from : (g : List (List ℕ)) → IsReached (family known r) g → Contains (map (family known) references) g
  members_from g reached =
      let found : ReachesAs known r g = (reached-as known closed r g knows).0 reached in
      subst (Contains (map (family known) references)) found.is
      (map-contains _ _ _ ((reaches found.reference).1 found.reaches))

  pub node_count-references : IsNodeCount (family known r) (length references)
  node_count-references = record {
    members = map (family known) references;
    each_once = each_once-map (family known) references tell_apart once;
    reached = λ g. (members_to g, members_from g);
    counted = sym (length-map references (family known));
  }
