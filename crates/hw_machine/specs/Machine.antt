-- What the tables of a machine stand for.
use Rattle.std.specs.Prelude.{false, length, slice_index, slice_index_or}
use Rattle.machine_steps.specs.declared.states.ThreadState.TheVariants.{Cold}
use Rattle.machine_steps.specs.Hardware.{Setting, Hardware}
use Rattle.hw_machine.specs.declared.machine.Machine.{Machine}

-- how many threads and groups there are, the group of each thread, and the firmware's revisions
abbrev pub setting_of : Machine → Setting
setting_of machine =
    record {
      threads = length machine.group.items;
      groups = length machine.bios.items;
      group = λ t. slice_index machine.group.items t;
      bios = λ g. slice_index machine.bios.items g;
    }

-- the state: past its tables' ends a thread is cold and not remembered, and no group refuses
abbrev pub hardware_of : Machine → Hardware
hardware_of machine =
    record {
      power = machine.power;
      thread = λ t. slice_index_or machine.thread.items t Cold;
      remembered = λ t. slice_index_or machine.remembered.items t false;
      refuses = λ g. slice_index_or machine.refuses.items g false;
      rev = λ g. slice_index machine.rev.items g;
    }
