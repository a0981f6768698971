-- What a call of a session answers.
use Rattle.device.specs.declared.ticket.Ticket.{Ticket}
use Rattle.device.specs.declared.ticket.Ticket.TheVariants as tickets
use Rattle.desk.specs.declared.answer.Answer.{Answer}
use Rattle.desk.specs.declared.answer.Answer.TheVariants as answers

-- The host now has this ticket.
abbrev pub handed : Ticket → Answer
handed (tickets.Execution k) = answers.Execution
handed (tickets.Report k) = answers.Report
