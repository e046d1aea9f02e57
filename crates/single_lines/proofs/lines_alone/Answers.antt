-- The window of a call that is not refused is in range.
use Rattle.windows.proofs.Samples.{sample-le}
use Rattle.spectral_lines.proofs.PartAccepted.{accepted_window}
use Rattle.single_lines.proofs.lines_alone.Goals as goal

pub invariant_of-window : goal.invariant_of-window
invariant_of-window c = let in-range = accepted_window _ _ _ _ c.in_ok-samples.ensures.value c.in_ok-samples.ensures.window in
    record { whole = in-range.whole-window; bounded = sample-le _ in-range.samples; quarter_value = c.quarter_wave-quarter.ensures }
