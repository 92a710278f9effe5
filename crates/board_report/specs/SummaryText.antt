-- The summary of a made deck: how large its tree is, how many cut sets and failing orders it has, and what came of its
-- requests on a board.
use Rattle.std.specs.Prelude.{ℕ, Bool, true, false, List, ◌++◌, length, filter, codes, decimal, Option}
use Rattle.fault_definitions.specs.Tree.{FaultTree, unit_count, gate_count}
use Rattle.cut_sequences.specs.Orders.{order_total}
use Rattle.margin_policy.specs.{Decide.is_granted, Held.units_out, declared.request.Reply.Reply}
use Rattle.margin_policy.specs.{declared.request.Reply.TheVariants.Granted, declared.request.Reply.TheVariants.Denied}
use Rattle.outage_board.specs.{Boards.BoardView, Boards.standing_of, declared.entry.Entry.Entry}
use Rattle.board_report.specs.BoardText.{out_head}
use Rattle.cut_texts.specs.CutsText.{count_line}

-- `made NUMBER: U units, G gates`
abbrev pub made_line : ℕ → ℕ → ℕ → List ℕ
made_line number units gates = codes "made "
    ++ (decimal number ++ (codes ": " ++ (decimal units ++ (codes " units, " ++ (decimal gates ++ codes " gates\n")))))

-- ---- the replies

-- whether a reply denies its request for a cut set
abbrev pub is_denied : Reply → Bool
is_denied (Denied number) = true
is_denied _ = false

-- whether a reply names an error, E1 to E5
abbrev pub is_error : Reply → Bool
is_error Granted = false
is_error (Denied number) = false
is_error _ = true

-- how many entries have a reply of a kind
abbrev pub reply_count : (Reply → Bool) → List Entry → ℕ
reply_count is_kind history = length (filter (λ (entry : Entry). is_kind entry.reply) history)

-- `requests: R, granted: A, denied: D, named errors: E`
abbrev pub replies_line : ℕ → ℕ → ℕ → ℕ → List ℕ
replies_line requests granted denied errors = codes "requests: "
    ++ (decimal requests
    ++ (codes ", granted: "
    ++ (decimal granted
    ++ (codes ", denied: " ++ (decimal denied ++ (codes ", named errors: " ++ (decimal errors ++ codes "\n")))))))

-- the requests that were decided, and how
abbrev pub decided_line : List Entry → List ℕ
decided_line history =
    replies_line (length history) (reply_count is_granted history) (reply_count is_denied history)
    (reply_count is_error history)

-- ---- all of it

-- four lines: how large the tree is, cut sets and listed orders, requests by their replies, how many units are out
abbrev pub summary_text : ℕ → FaultTree → List (Option (List (List ℕ))) → BoardView → List ℕ
summary_text number tree orders board =
    made_line number (unit_count tree) (gate_count tree)
    ++ (count_line (length board.deck.opening.cuts) (order_total orders)
    ++ (decided_line board.history ++ out_head (length (units_out (standing_of board).held))))
