-- What is read and where the reader goes on are the two parts of the step.
use Rattle.std.proofs.Common.{ap}
use Rattle.pileup.specs.declared.reader.CallStep.{CallStep}
use Rattle.pileup.specs.Inner.Reader.{step_at, reader_at}
use Rattle.pileup.proofs.reader.RecordReader.next.Goals as goal

pub returns : goal.returns
unfolding step_at
returns c =
    let e = c.read_call-step.ensures in
    (ap (λ (x : CallStep). x.read) e, ap (λ (x : CallStep). reader_at c.args.self.now.words x.next) e)
