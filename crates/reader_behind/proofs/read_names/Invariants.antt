use Rattle.reader_behind.proofs.Progress.{NamesRead}
use Rattle.reader_behind.proofs.read_names.Given as goal

-- `read_names` meets its contract. The loop's invariant: i names are read, and the whole answer is that of the rest behind them.
abbrev pub invariant-loop : goal.invariant-loop
invariant-loop l =
    NamesRead l.data l.limits l.version l.count l.width l.fn.start l.initial.table l.initial.pool l.counter l.next l.table l.pool
