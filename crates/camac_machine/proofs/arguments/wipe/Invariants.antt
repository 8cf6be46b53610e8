use Rattle.std.proofs.Common.{◌≡◌, ◌-◌, ◌++◌, length, replicate, take}
use Rattle.camac_machine.proofs.arguments.wipe.Given as goal

abbrev pub invariant-places : goal.invariant-places
invariant-places g l =
    record {
      so_far : take l.place l.all ≡ take l.fn.places.start l.initial.all ++ replicate (l.place - l.fn.places.start) l.value;
      count : length l.all ≡ length l.initial.all;
    }
