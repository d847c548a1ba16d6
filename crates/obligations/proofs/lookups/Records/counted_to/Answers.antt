use Rattle.std.proofs.Common.{List, map}
use Rattle.records.specs.Records.{transition_of, place_record_of, inner_of}
use Rattle.semantics.specs.declared.obligation.Obligation.{Obligation}
use Rattle.semantics.specs.Enumerated.{gathered, consecutions_of, restrictions_of, guards_of, exits_of, obligations_of}
use Rattle.obligations.specs.declared.lookups.Records.{Records}
use Rattle.obligations.specs.Questions.{bare_table, witness_of}
use Rattle.obligations.proofs.CountedLists.{broken_at, reached_behind}
use Rattle.obligations.proofs.lookups.Records.counted_to.Goals as goal

-- the obligations of each kind
abbrev consecutions : Records → List Obligation
consecutions records = gathered (consecutions_of (bare_table records) (witness_of records)) (map inner_of records.inners.now)

abbrev restrictions : Records → List Obligation
restrictions records = gathered restrictions_of (map inner_of records.inners.now)

abbrev guards : Records → List Obligation
guards records = gathered (guards_of (bare_table records)) (map place_record_of records.places.now)

abbrev exits : Records → List Obligation
exits records = gathered (exits_of (witness_of records)) (map transition_of records.transitions.now)

pub returns-in_err-past_consecutions : goal.returns-in_err-past_consecutions
unfolding obligations_of
returns-in_err-past_consecutions c = broken_at _ (consecutions c.args.self.now) _ _ _ c.from_residual.ensures c.in_err-past_consecutions.ensures

pub returns-in_err-past_restrictions : goal.returns-in_err-past_restrictions
unfolding obligations_of
returns-in_err-past_restrictions c =
    reached_behind _ _ (consecutions c.args.self.now) _ _ c.in_ok-past_consecutions.ensures
    (broken_at _ (restrictions c.args.self.now) _ _ _ c.from_residual-in_err-past_restrictions.ensures c.in_err-past_restrictions.ensures)

pub returns-in_err-past_guards : goal.returns-in_err-past_guards
unfolding obligations_of
returns-in_err-past_guards c =
    reached_behind _ _ (consecutions c.args.self.now) _ _ c.in_ok-past_consecutions.ensures
    (reached_behind _ _ (restrictions c.args.self.now) _ _ c.in_ok-past_restrictions.ensures
    (broken_at _ (guards c.args.self.now) _ _ _ c.from_residual-in_err-past_guards.ensures c.in_err-past_guards.ensures))

pub returns : goal.returns
unfolding obligations_of
returns c =
    reached_behind _ _ (consecutions c.args.self.now) _ _ c.in_ok-past_consecutions.ensures
    (reached_behind _ _ (restrictions c.args.self.now) _ _ c.in_ok-past_restrictions.ensures
    (reached_behind _ _ (guards c.args.self.now) _ _ c.in_ok-past_guards.ensures c.exit_at.ensures))
