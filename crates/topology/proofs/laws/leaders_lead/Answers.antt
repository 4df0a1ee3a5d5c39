use Rattle.topology.proofs.Components.{leader_leads, one_leader}
use Rattle.topology.proofs.laws.leaders_lead.Goals as goal

pub returns-clause-leads : goal.returns-clause-leads
returns-clause-leads c = leader_leads

pub returns-clause-one : goal.returns-clause-one
returns-clause-one c = one_leader
