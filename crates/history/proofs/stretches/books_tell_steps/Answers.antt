use Rattle.history.proofs.stretches.books_tell_steps.Goals as goal

pub returns-clause-steps : goal.returns-clause-steps
returns-clause-steps g c = λ b s is. c.stretches_are_steps.ensures b.opening b.entries s is.graph is.shaped

pub returns-clause-reports : goal.returns-clause-reports
returns-clause-reports g c = λ b s is. c.reports_are_true.ensures b.opening b.entries s is.graph is.shaped
