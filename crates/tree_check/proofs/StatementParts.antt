-- What a statement of another kind doesn't have.
use Rattle.std.proofs.Common.{◌≡◌, [], refl}
use Rattle.galileo_tree.specs.{declared.raw.RawTop.RawTop, declared.raw.RawBasic.RawBasic}
use Rattle.galileo_tree.specs.{declared.raw.Statement.Statement}
use Rattle.galileo_tree.specs.declared.raw.Statement.TheVariants.{Top, Gate, Basic}
use Rattle.tree_check.specs.Said.{top_in, basic_in}

pub no_top_in : (statement : Statement) → ((top : RawTop) → statement ≡ Top top → ⊥) → top_in statement ≡ []
no_top_in (Top top) other = absurd (other top refl)
no_top_in (Gate gate) other = refl
no_top_in (Basic basic) other = refl

pub no_basic_in : (statement : Statement) → ((basic : RawBasic) → statement ≡ Basic basic → ⊥) → basic_in statement ≡ []
no_basic_in (Top top) other = refl
no_basic_in (Gate gate) other = refl
no_basic_in (Basic basic) other = absurd (other basic refl)
