-- Each step of the walk leaves less to do.
use Rattle.std.proofs.Common.{◌≡◌, ℕ, zero, suc, ◌+◌, ◌<◌, List, [], ◌∷◌, length, refl, ap, arith}
use Rattle.std.specs.Prelude.{slice_index, slice_set}
use Rattle.graph_cycles.specs.Graph.{successors}
use Rattle.graph_cycles.specs.declared.walk.Stage.{Stage}
use Rattle.graph_cycles.specs.declared.walk.Stage.TheVariants.{New, Open}
use Rattle.graph_cycles.specs.Walk.{stage_at, stage_work, work_left}

pub work-visited : (graph : List (List ℕ)) (explored : List ℕ) (stages : List Stage) (x n : ℕ)
    → length explored ≡ length graph → length stages ≡ length graph → x < length graph → stage_at stages x ≡ New
    → work_left graph explored (slice_set stages x (Open n)) + 2 ≡ work_left graph explored stages
work-visited [] explored stages x n same same' l new = absurd (omega arith)
work-visited (row ∷ rows) [] stages x n same same' l new = absurd (omega arith)
work-visited (row ∷ rows) (e ∷ explored) [] x n same same' l new = absurd (omega arith)
work-visited (row ∷ rows) (e ∷ explored) (stage ∷ stages) zero n same same' l new = omega (arith, ap stage_work new)
work-visited (row ∷ rows) (e ∷ explored) (stage ∷ stages) (suc x) n same same' l new =
    omega (arith, work-visited rows explored stages x n (omega arith) (omega arith) (omega arith) new)

pub work-explored : (graph : List (List ℕ)) (explored : List ℕ) (stages : List Stage) (x : ℕ)
    → length explored ≡ length graph → length stages ≡ length graph → x < length graph
    → slice_index explored x < length (successors graph x)
    → work_left graph (slice_set explored x (slice_index explored x + 1)) stages + 1 ≡ work_left graph explored stages
work-explored [] explored stages x same same' l more = absurd (omega arith)
work-explored (row ∷ rows) [] stages x same same' l more = absurd (omega arith)
work-explored (row ∷ rows) (e ∷ explored) [] x same same' l more = absurd (omega arith)
work-explored (row ∷ rows) (e ∷ explored) (stage ∷ stages) zero same same' l more = omega arith
work-explored (row ∷ rows) (e ∷ explored) (stage ∷ stages) (suc x) same same' l more =
    omega (arith, work-explored rows explored stages x (omega arith) (omega arith) (omega arith) more)

-- stages that are new alike leave the same to do
pub work-same : (graph : List (List ℕ)) (explored : List ℕ) (stages stages' : List Stage)
    → length stages' ≡ length stages
    → ((x : ℕ) → stage_work (stage_at stages' x) ≡ stage_work (stage_at stages x))
    → work_left graph explored stages' ≡ work_left graph explored stages
work-same [] explored stages stages' same alike = refl
work-same (row ∷ rows) [] stages stages' same alike = refl
work-same (row ∷ rows) (e ∷ explored) [] [] same alike = refl
work-same (row ∷ rows) (e ∷ explored) [] (stage' ∷ stages') same alike = absurd (omega arith)
work-same (row ∷ rows) (e ∷ explored) (stage ∷ stages) [] same alike = absurd (omega arith)
work-same (row ∷ rows) (e ∷ explored) (stage ∷ stages) (stage' ∷ stages') same alike =
    omega (arith, alike 0, work-same rows explored stages stages' (omega arith) (λ x. alike (suc x)))
