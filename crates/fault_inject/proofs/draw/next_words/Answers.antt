use Rattle.fault_inject.proofs.Words.{next_words-steps}
use Rattle.fault_inject.proofs.draw.next_words.Goals as goal

pub returns : goal.returns
returns c =
    next_words-steps _ _ _ _ _ _ _ _ _ _ _ c.next_word-first.ensures c.next_word-second.ensures
    c.next_word-third.ensures c.next_word-fourth.ensures c.next_word-fifth.ensures
