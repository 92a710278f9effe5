use Rattle.std.proofs.Common.{◌≡◌, sym, subst, true}
use Rattle.galileo_tree.specs.Lexeme.{Lexeme, is_value}
use Rattle.galileo_tree.proofs.lexeme.Lexeme.name.Goals as goal

-- a word or a quoted text has the form of a name
pub front-requires-clause-form : goal.front-requires-clause-form
unfolding is_value
front-requires-clause-form c =
    c.self.invariant.1 (subst (λ (l : Lexeme). is_value l ≡ true) (sym c.self.view_is) c.requires)
