use Rattle.rows.specs.Limits.{columns}
use Rattle.rows.proofs.First.{is_first}
use Rattle.extension.specs.ZeroGoals.{uses}
use Rattle.extension.proofs.zero_goal.first_used.Goals as goal

-- the first column is what the search for it gives
pub returns-clause-value : goal.returns-clause-value
returns-clause-value c = is_first (uses c.args.goal.now) columns c.used_index.result c.used_index.ensures
