use Rattle.std.proofs.Common.{refl, arith}
use Rattle.ca_steps.proofs.Handing.{put_so}
use Rattle.ca_steps.proofs.frames.Frames.put_values.Goals as goal

pub put_words-requires : goal.put_words-requires
put_words-requires c = record { many = omega arith; room = omega arith }

pub returns-then-put_words : goal.returns-then-put_words
returns-then-put_words c =
    put_so c.args.self.now _ _ c.args.values.now refl (c.put_words.ensures c.if-put_words.true)
