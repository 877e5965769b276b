use Rattle.std.proofs.Common.{ap}
use Rattle.away_trees.proofs.Equations as eq
use Rattle.sql_meaning.specs.Meaning.{meaning}
use Rattle.sql_meaning.proofs.Nodes as own
use Rattle.sql_meaning.proofs.equations.aggregates_stand_outside_subqueries.Goals as goal

pub returns-clause-neg : goal.returns-clause-neg
returns-clause-neg c = λ e. ap (λ m. m.aggregates) (eq.of_neg meaning e)

pub returns-clause-neg_small : goal.returns-clause-neg_small
returns-clause-neg_small c = λ e. ap (λ m. m.aggregates) (eq.of_negsmall meaning e)

pub returns-clause-not : goal.returns-clause-not
returns-clause-not c = λ e. ap (λ m. m.aggregates) (eq.of_not meaning e)

pub returns-clause-is : goal.returns-clause-is
returns-clause-is c = λ e test negative. ap (λ m. m.aggregates) (eq.of_is meaning e test negative)

pub returns-clause-chain : goal.returns-clause-chain
returns-clause-chain c = own.aggregate_chain

pub returns-clause-compare : goal.returns-clause-compare
returns-clause-compare c = λ op x y. ap (λ m. m.aggregates) (eq.of_compare meaning op x y)

pub returns-clause-between : goal.returns-clause-between
returns-clause-between c = λ negative x y z. ap (λ m. m.aggregates) (eq.of_between meaning negative x y z)

pub returns-clause-one_of : goal.returns-clause-one_of
returns-clause-one_of c = own.aggregate_one_of

pub returns-clause-cast : goal.returns-clause-cast
returns-clause-cast c = λ e t. ap (λ m. m.aggregates) (eq.of_cast meaning e t)

pub returns-clause-cases : goal.returns-clause-cases
returns-clause-cases c = own.aggregate_cases

pub returns-clause-cases_alone : goal.returns-clause-cases_alone
returns-clause-cases_alone c = own.aggregate_cases_alone

pub returns-clause-call : goal.returns-clause-call
returns-clause-call c = own.aggregate_call

pub returns-clause-scalar : goal.returns-clause-scalar
returns-clause-scalar c = λ q. ap (λ m. m.aggregates) (eq.of_scalar meaning q)

pub returns-clause-exists : goal.returns-clause-exists
returns-clause-exists c = λ q. ap (λ m. m.aggregates) (eq.of_exists meaning q)
