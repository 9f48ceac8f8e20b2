-- The call in each arm gives the whole text.
use Rattle.ag_transcript.proofs.refusal.put_refusal.Goals as goal

pub returns-in_ok-put_named-in-NotReadable : goal.returns-in_ok-put_named-in-NotReadable
returns-in_ok-put_named-in-NotReadable c = rw c.in-NotReadable.is (rw c.from.ensures at c.in_ok-put_named-in-NotReadable.ensures)

pub returns-in_ok-put_named-in-WrongState : goal.returns-in_ok-put_named-in-WrongState
returns-in_ok-put_named-in-WrongState c = rw c.in-WrongState.is (rw c.from-in-WrongState.ensures at c.in_ok-put_named-in-WrongState.ensures)

pub returns-in_ok-put_nodes-in-NoMessage : goal.returns-in_ok-put_nodes-in-NoMessage
returns-in_ok-put_nodes-in-NoMessage c = rw c.in-NoMessage.is c.in_ok-put_nodes-in-NoMessage.ensures

pub returns-in_ok-put_two-in-NotUndone : goal.returns-in_ok-put_two-in-NotUndone
returns-in_ok-put_two-in-NotUndone c = rw c.in-NotUndone.is c.in_ok-put_two-in-NotUndone.ensures

pub returns-in_ok-put_named-in-Unhardened : goal.returns-in_ok-put_named-in-Unhardened
returns-in_ok-put_named-in-Unhardened c = rw c.in-Unhardened.is c.in_ok-put_named-in-Unhardened.ensures
