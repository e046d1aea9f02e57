-- What the exported call for the panel's row answers. Those for lines answer what `spectral_lines` and `spectrum` define.
pub mod PanelCall
