-- The fields of the program's book and its record: neither has more than the other.
use Rattle.book.specs.rules.Records.{BookRecord}
use Rattle.book.specs.declared.Book.TheInside.{Inside}

abbrev pub record_of : Inside → BookRecord
record_of b = record {
  n = b.n;
  grouping = b.grouping;
  limits = b.limits;
  highest = b.highest;
  count = b.count;
  held = b.held;
  periods = b.periods;
  purses = b.purses;
}

abbrev pub inside_of : BookRecord → Inside
inside_of b = record {
  n = b.n;
  grouping = b.grouping;
  limits = b.limits;
  highest = b.highest;
  count = b.count;
  held = b.held;
  periods = b.periods;
  purses = b.purses;
}
