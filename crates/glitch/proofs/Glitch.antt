-- What one bad sample can do: both theorems of document 02's card 14.
use Rattle.glitch.specs.Claim.{GlitchHolds}
use Rattle.glitch.proofs.Groups.{groups-bounded}
use Rattle.glitch.proofs.Smoothed.{smoothed-bounded}

pub glitch : GlitchHolds
glitch = record { groups = groups-bounded; smoothed = smoothed-bounded }
