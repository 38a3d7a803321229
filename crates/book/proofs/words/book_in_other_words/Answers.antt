use Rattle.book.proofs.Lasting.{stands_is_last, scheduled_is_last, read_is_last}
use Rattle.book.proofs.Spending.{spent_is_count}
use Rattle.book.proofs.words.book_in_other_words.Goals as goal

pub returns : goal.returns
returns c =
    record {
      stands_is_last = λ log h s i. stands_is_last h s log i;
      scheduled_is_last = λ log h g. scheduled_is_last h log g;
      read_is_last = λ log h m. read_is_last h log m;
      spent_is_count = λ o calls fits free. spent_is_count o fits free calls;
    }
