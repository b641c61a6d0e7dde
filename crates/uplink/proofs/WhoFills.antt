-- "After every call the list equals one worked out afresh." (02 §7): in a sound memory, so in what any call leaves of one, the bytes read are those that wait, and the
-- list read is the five fullest.
use Rattle.std.proofs.Common.{◌≡◌, ℕ, ◌<◌, true, List}
use Rattle.rules.specs.Numbers.{slots}
use Rattle.rules.specs.Fullest.{bytes_in, fullest}
use Rattle.rules.specs.Calls.{Call, step, run, InRange, AllInRange}
use Rattle.memory.specs.Reading.{state_of, bytes_at, list_at}
use Rattle.memory.specs.Memory.{sound_bytes}
use Rattle.memory.proofs.Base.{bytes_small}
use Rattle.memory.proofs.NoteLaws.{bytes_read, list_read}
use Rattle.memory.proofs.OneMemory.{memory-sound, noted-is}
use Rattle.uplink.specs.Lent.{step_on, run_on}
use Rattle.uplink.proofs.Runs.{step-sound-on, step-state, sound-on, run-state}

module _ (b : List ℕ) (e : sound_bytes b ≡ true) where
  pub bytes_in-memory : (i : ℕ) → i < slots → bytes_at b i ≡ bytes_in (state_of b).channels i
  bytes_in-memory = bytes_read (bytes_in (state_of b).channels) (bytes_small (memory-sound b e).state) b (noted-is b e)

  pub list_in_memory : list_at b ≡ fullest (state_of b).channels
  list_in_memory = list_read (bytes_in (state_of b).channels) (bytes_small (memory-sound b e).state) b (noted-is b e)

-- after any call, of the channels that the rules' call leaves
pub bytes-after-call : (b : List ℕ) (c : Call) → InRange c → sound_bytes b ≡ true → (i : ℕ) → i < slots → bytes_at (step_on b c) i ≡ bytes_in (step (state_of b) c).channels i
bytes-after-call b c f e i l = rw (← step-state b c f e) (bytes_in-memory (step_on b c) (step-sound-on b c f e) i l)

pub list_after-call : (b : List ℕ) (c : Call) → InRange c → sound_bytes b ≡ true → list_at (step_on b c) ≡ fullest (step (state_of b) c).channels
list_after-call b c f e = rw (← step-state b c f e) (list_in_memory (step_on b c) (step-sound-on b c f e))

-- and after any list of them
pub list_after-calls : (b : List ℕ) (cs : List Call) → AllInRange cs → sound_bytes b ≡ true → list_at (run_on b cs) ≡ fullest (run (state_of b) cs).channels
list_after-calls b cs f e = rw (← run-state b cs f e) (list_in_memory (run_on b cs) (sound-on b cs f e))
