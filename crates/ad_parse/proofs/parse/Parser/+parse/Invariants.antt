use Rattle.std.proofs.Common.{◌≡◌, ◌≤◌, ◌+◌, ◌-◌, ◌*◌, ℕ, length, map}
use Rattle.ad_tree.specs.Tree.{tree, rest}
use Rattle.ad_parse.specs.Reader.{rests_at, level_at, operand_at, cond_at, more_items_at, items_from}
use Rattle.ad_parse.proofs.Steps.{after_rests, after_trees}
use Rattle.ad_parse.proofs.parse.Parser.+parse.Given as goal

abbrev pub decreases-parse_operand : goal.decreases-parse_operand
decreases-parse_operand l = 21 * l.self.left

abbrev pub decreases-parse_prefix : goal.decreases-parse_prefix
decreases-parse_prefix l = 21 * l.self.left + 1

abbrev pub decreases-parse_level : goal.decreases-parse_level
decreases-parse_level l = 21 * l.self.left + 1 + 2 * l.loosest

abbrev pub decreases-parse_rests : goal.decreases-parse_rests
decreases-parse_rests l = 21 * l.self.left + 2 * l.level

abbrev pub decreases-parse_condition : goal.decreases-parse_condition
decreases-parse_condition l = 21 * l.self.left + 14

abbrev pub decreases-parse_boxed : goal.decreases-parse_boxed
decreases-parse_boxed l = 21 * l.self.left + 15

abbrev pub decreases-parse_branches : goal.decreases-parse_branches
decreases-parse_branches l = 21 * l.self.left + 16

abbrev pub decreases-parse_or_else : goal.decreases-parse_or_else
decreases-parse_or_else l = 21 * l.self.left + 16

abbrev pub decreases-parse_choice : goal.decreases-parse_choice
decreases-parse_choice l = 21 * l.self.left + 17

abbrev pub decreases-parse_brackets : goal.decreases-parse_brackets
decreases-parse_brackets l = 21 * l.self.left + 15

abbrev pub decreases-parse_more_conditions : goal.decreases-parse_more_conditions
decreases-parse_more_conditions l = 21 * l.self.left + 15

abbrev pub decreases-parse_conditions : goal.decreases-parse_conditions
decreases-parse_conditions l = 21 * l.self.left + 16

abbrev pub decreases-parse_items : goal.decreases-parse_items
decreases-parse_items l = 21 * l.self.left + 17

abbrev pub decreases-parse_call : goal.decreases-parse_call
decreases-parse_call l = 21 * l.self.left + 17

abbrev pub decreases-parse_name : goal.decreases-parse_name
decreases-parse_name l = 21 * l.self.left + 18

abbrev pub decreases-parse_name_or_brackets : goal.decreases-parse_name_or_brackets
decreases-parse_name_or_brackets l = 21 * l.self.left + 19

abbrev pub decreases-parse_primary : goal.decreases-parse_primary
decreases-parse_primary l = 21 * l.self.left + 20

abbrev pub invariant-parse_rests-loop-op : goal.invariant-parse_rests-loop-op
invariant-parse_rests-loop-op l =
    (n : ℕ) × (length l.rest ≤ n) × (rests_at (level_at (operand_at l.self.end l.self.left) (l.level - 1)) l.level (length l.tokens) l.tokens ≡ after_rests (map rest l.items.items) (rests_at (level_at (operand_at l.self.end l.self.left) (l.level - 1)) l.level n l.rest))
    × (length l.rest ≤ length l.tokens)

abbrev pub decreases-parse_rests-loop-op : goal.decreases-parse_rests-loop-op
decreases-parse_rests-loop-op l = length l.rest

abbrev pub invariant-parse_more_conditions-loop-after : goal.invariant-parse_more_conditions-loop-after
invariant-parse_more_conditions-loop-after l =
    (n : ℕ) × (length l.rest ≤ n) × (items_from l.bracket l.self.end (cond_at l.self.end l.self.left) (tree l.fn.item) l.tokens ≡ after_trees (map tree l.items.items) (more_items_at l.bracket l.self.end (cond_at l.self.end l.self.left) n l.rest))
    × (length l.rest ≤ length l.tokens)

abbrev pub decreases-parse_more_conditions-loop-after : goal.decreases-parse_more_conditions-loop-after
decreases-parse_more_conditions-loop-after l = length l.rest
