-- Each fault has its text.
-- Assumes nothing.
use Rattle.faults.proofs.put_what.Goals as goal

pub returns-in-Count : goal.returns-in-Count
returns-in-Count c = simp c.in-Count.is c.put_given.ensures

pub returns-in-NoProtocol : goal.returns-in-NoProtocol
returns-in-NoProtocol c = simp c.in-NoProtocol.is c.put-in-NoProtocol.ensures

pub returns-in-NoCode : goal.returns-in-NoCode
returns-in-NoCode c = simp c.in-NoCode.is c.put-in-NoCode.ensures

pub returns-in-Above : goal.returns-in-Above
returns-in-Above c = simp c.in-Above.is c.put_given-in-Above.ensures
