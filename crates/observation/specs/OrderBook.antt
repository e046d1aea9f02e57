-- The code's book of one order as a reported book.
use Rattle.observation.specs.declared.book.OrderBook.{OrderBook}
use Rattle.books.specs.Book.{Book}
use Rattle.books.specs.Smoothing.{reported}

abbrev pub book_of : OrderBook → Book reported
book_of book = record { count = book.count; smoothed = book.smoothed; sum = book.sum; peak = book.peak }
