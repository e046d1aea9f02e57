-- `record_words::writing::write_record` meets its contract: each part is put after those before it.
use mathlib.Core.Path.{sym, ◌∙◌}
use native.Mathlib.Omega.{arith}
use borrow.Author.Rules.{rules}
use lib.Seq.{take_all}
use Rattle.record_words.specs.Words.{record_words}
use Rattle.record_words.proofs.Words.{words_of-parts}
use Rattle.record_words.proofs.writing.write_record.Goals as goal

-- the count of words is kept
pub shape_of-words : goal.shape_of-words
shape_of-words c = search rules

pub returns : goal.returns
returns c = let words = c.put_halves.new.words in
    sym (take_all record_words words (omega (arith, shape_of-words c, c.requires))) ∙
    rw (
      c.put_halves.ensures,
      c.put_part-4.ensures,
      c.put_part-3.ensures,
      c.put_part-2.ensures,
      c.put_part.ensures,
      c.from.ensures,
      c.from-2.ensures,
      c.from-3.ensures,
    )
    (words_of-parts c.args.observation)
