use Rattle.std.proofs.Common.{◌≡◌, ◌≤◌, ◌++◌, ◌∷◌, [], length, nat_le, ap, arith, ◌∙◌}
use Rattle.std.proofs.lemmas.Result.{err_from_is_err_and}
use Rattle.cut_sequences.specs.{declared.share.GrowingShare.GrowingShare, Orders.order_limit}
use Rattle.cut_sequences.proofs.HoldingLemmas.{adds_listed, adds_unlisted, over_listed}
use Rattle.cut_sequences.proofs.share.GrowingShare.add_set.Goals as goal
use Rattle.cut_sequences.proofs.share.GrowingShare.add_set.Goals.{then-small+in_ok-list_set, else-small}

pub returns-in_err-list_set : goal.returns-in_err-list_set
returns-in_err-list_set c =
    let p = err_from_is_err_and c.from_residual.result c.from_residual.ensures.1 in
    rw (p.1, p.2) (over_listed c.args.set.now c.in_err-list_set.field-0.0 c.requires.grows
    c.if-small.true c.in_err-list_set.ensures.1)

pub returns : goal.returns
returns c =
    let before : GrowingShare = c.args.self.now in
    let joined : GrowingShare = c.if-small.self in
    let after : GrowingShare = record { search = joined.search; ends = c.push.new.self; listed = c.push-2.new.self } in
    let ends : after.ends.items ≡ joined.ends.items ++ length after.search.orders ∷ [] =
    c.in_ok-push.ensures.items ∙ ap (λ n. joined.ends.items ++ n ∷ []) c.len.ensures in
    elim c.if-small.branch [
      | then-small+in_ok-list_set w ↦
          let few : length joined.search.orders ≤ order_limit =
          omega (arith, ap (λ (s : GrowingShare). length s.search.orders) w.self-is, w.in_ok-list_set.ensures.1.1) in
          adds_listed c.args.set.now after c.requires.grows (c.in_ok-push-2.ensures.items
          ∙ ap (λ (s : GrowingShare). s.listed.items ++ nat_le (length c.args.set.now) c.args.sets.most ∷ []) w.self-is)
          (ends ∙ ap (λ (s : GrowingShare). s.ends.items ++ length joined.search.orders ∷ []) w.self-is)
          w.if-small.true
          (ap (λ (s : GrowingShare). s.search.replay) w.self-is ∙ w.in_ok-list_set.ensures.0.replay)
          (ap (λ (s : GrowingShare). s.search.orders) w.self-is ∙ w.in_ok-list_set.ensures.1.0) few
      | else-small w ↦
          adds_unlisted c.args.set.now after c.requires.grows (c.in_ok-push-2.ensures.items
          ∙ ap (λ (s : GrowingShare). s.listed.items ++ nat_le (length c.args.set.now) c.args.sets.most ∷ []) w.self-is)
          (ends ∙ ap (λ (s : GrowingShare). s.ends.items ++ length joined.search.orders ∷ []) w.self-is)
          w.if-small.false (ap (λ (s : GrowingShare). s.search) w.self-is)
    ]
