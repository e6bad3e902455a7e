use Rattle.sv8_answers.specs.Script as workbench
use Rattle.sv8_monitor.specs.Session.{orders_in, orders_of}
use Rattle.sv8_monitor.proofs.WorkbenchLemmas.{answered-alike, answered-alike-as, lines-lifted, script-lifted}
use Rattle.sv8_monitor.proofs.laws.commands_are_answered_alike.Goals as goal

pub returns-clause-orders : goal.returns-clause-orders
returns-clause-orders c = answered-alike

pub returns-clause-lines : goal.returns-clause-lines
returns-clause-lines c = λ lines own. answered-alike-as (orders_in lines) (workbench.orders_in lines) (lines-lifted lines own)

pub returns-clause-scripts : goal.returns-clause-scripts
returns-clause-scripts c = λ script own. answered-alike-as (orders_of script) (workbench.orders_of script) (script-lifted script own)
