use Rattle.sv8_walks.proofs.Ordinary.{made_or_not}
use Rattle.sv8_walks.proofs.machines.run_both.Goals as goal

pub returns-clause-own : goal.returns-clause-own
returns-clause-own g c =
    let told = c.in_ok-word.ensures.own in
    let fetched = rw c.in-Some.is at told in
    made_or_not _ _ _ _ _ _ _ _ _ _ _ c.of_step-feed.ensures.arrived fetched c.in_ok-done.ensures.own

pub returns-clause-others : goal.returns-clause-others
returns-clause-others g c =
    let told = c.in_ok-word.ensures.others in
    let fetched = rw c.in-Some.is at told in
    made_or_not _ _ _ _ _ _ _ _ _ _ _ c.of_step-other_feed.ensures.arrived fetched c.in_ok-done.ensures.others
